use Rattle.std.proofs.Common.{Err, sym, ap}
use Rattle.report.proofs.Hexes.{hex_of-is, hex_of-other}
use Rattle.report.proofs.fields.hex_of.Goals as goal

pub returns-in-Ok : goal.returns-in-Ok
returns-in-Ok c = sym (hex_of-is _ _ c.in-Ok.ensures.value)

pub returns-in-Err-Bad : goal.returns-in-Err-Bad
returns-in-Err-Bad c = sym (hex_of-other _ (c.in-Err-Bad.ensures.bad (ap Err c.in-Err-Bad.field-0-is)))
