use Rattle.save_format.specs.PatchText.PatchText.{parsed_patch, patch_at}
use Rattle.save_format.specs.StateText.Mappable.{IsHeaderOf}
use Rattle.save_format.specs.StateText.Seen.{state_view}
use Rattle.save_format.proofs.StateTextLemmas.Mapped.{never_wrong, whole_told}
use Rattle.save_format.proofs.patch_text.mapping.header_of.Goals as goal

pub unreachable-requires : goal.unreachable-requires
unfolding parsed_patch
unreachable-requires c = never_wrong (patch_at (state_view c.args.base.now)) c.args.text.now c.new-cursor.result c.in-Err.field-0.remaining c.new-cursor.ensures c.in-Err.ensures c.requires

pub returns : goal.returns
unfolding parsed_patch
returns c = whole_told IsHeaderOf (patch_at (state_view c.args.base.now)) c.args.text.now c.new-cursor.result c.in-Ok.header c.new-cursor.ensures c.in-Ok.ensures
