use Rattle.std.proofs.Common.{ap, sym, ◌∙◌}
use Rattle.save_format.specs.SaveText.{parsed_save, save_at}
use Rattle.save_format.specs.Seen.{save_view}
use Rattle.save_format.proofs.ByteFieldsLemmas.Encodes.{formed_so}
use Rattle.save_format.proofs.reading.all.Goals as goal

pub returns-in-Ok : goal.returns-in-Ok
unfolding parsed_save
returns-in-Ok c = formed_so save_at c.args.text.now (save_view c.in-Ok.parts) c.save_of.new.cursor c.in_ok-judge.ensures (ap save_at (sym c.new-cursor.ensures) ∙ c.in-Ok.ensures)
