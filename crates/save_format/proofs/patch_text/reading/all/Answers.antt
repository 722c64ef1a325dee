use Rattle.std.proofs.Common.{ap, sym, ◌∙◌}
use Rattle.save_format.specs.PatchText.PatchText.{parsed_patch, patch_at}
use Rattle.save_format.specs.StateText.Seen.{state_view}
use Rattle.save_format.proofs.ByteFieldsLemmas.Encodes.{formed_so}
use Rattle.save_format.proofs.patch_text.reading.all.Goals as goal

pub returns-in-Ok : goal.returns-in-Ok
unfolding parsed_patch
returns-in-Ok c = formed_so (patch_at (state_view c.args.base.now)) c.args.text.now (state_view c.in-Ok.parts) c.patch_of.new.cursor c.in_ok-judge.ensures (ap (patch_at (state_view c.args.base.now)) (sym c.new-cursor.ensures) ∙ c.in-Ok.ensures)
