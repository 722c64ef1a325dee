use Rattle.save_format.specs.SaveText.{parsed_save, save_at}
use Rattle.save_format.specs.Seen.{IsSaveHeaderOf}
use Rattle.save_format.proofs.StateTextLemmas.Mapped.{never_wrong, whole_told}
use Rattle.save_format.proofs.mapping.header_of.Goals as goal

pub unreachable-requires : goal.unreachable-requires
unfolding parsed_save
unreachable-requires c = never_wrong save_at c.args.text.now c.new-cursor.result c.in-Err.field-0.remaining c.new-cursor.ensures c.in-Err.ensures c.requires

pub returns : goal.returns
unfolding parsed_save
returns c = whole_told IsSaveHeaderOf save_at c.args.text.now c.new-cursor.result c.in-Ok.header c.new-cursor.ensures c.in-Ok.ensures
