use Rattle.std.proofs.Common.{ap, sym, ◌∙◌}
use Rattle.save_format.specs.StateText.StateText.{parsed_state, state_at}
use Rattle.save_format.specs.StateText.Seen.{state_view}
use Rattle.save_format.proofs.ByteFieldsLemmas.Encodes.{formed_so}
use Rattle.save_format.proofs.state_text.reading.all.Goals as goal

pub returns-in-Ok : goal.returns-in-Ok
unfolding parsed_state
returns-in-Ok c = formed_so state_at c.args.text.now (state_view c.in-Ok.parts) c.parts_at.new.cursor c.in_ok-judge.ensures (ap state_at (sym c.new-cursor.ensures) ∙ c.in-Ok.ensures)
