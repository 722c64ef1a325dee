use Rattle.save_format.specs.StateText.Mappable.{IsHeaderOf}
use Rattle.save_format.specs.StateText.StateText.{parsed_state, state_at}
use Rattle.save_format.proofs.StateTextLemmas.Mapped.{never_wrong, whole_told}
use Rattle.save_format.proofs.state_text.mapping.header_of.Goals as goal

pub unreachable-requires : goal.unreachable-requires
unfolding parsed_state
unreachable-requires c = never_wrong state_at c.args.text.now c.new-cursor.result c.in-Err.field-0.remaining c.new-cursor.ensures c.in-Err.ensures c.requires

pub returns : goal.returns
unfolding parsed_state
returns c = whole_told IsHeaderOf state_at c.args.text.now c.new-cursor.result c.in-Ok.header c.new-cursor.ensures c.in-Ok.ensures
