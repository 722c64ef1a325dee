use Rattle.std.proofs.Common.{ap, sym, ◌∙◌}
use Rattle.save_format.specs.DeltaText.DeltaText.{delta_at, parsed_delta}
use Rattle.save_format.specs.DeltaText.Seen.{delta_view}
use Rattle.save_format.specs.Seen.{save_view}
use Rattle.save_format.proofs.ByteFieldsLemmas.Encodes.{formed_so}
use Rattle.save_format.proofs.delta_text.reading.all.Goals as goal

pub returns-in-Ok : goal.returns-in-Ok
unfolding parsed_delta
returns-in-Ok c = formed_so (delta_at (save_view c.args.base)) c.args.text.now (delta_view c.in-Ok.parts) c.delta_of.new.cursor c.in_ok-judge.ensures (ap (delta_at (save_view c.args.base)) (sym c.new-cursor.ensures) ∙ c.in-Ok.ensures)
