use Rattle.std.proofs.Common.{ap, sym, subst, length, ◌≤◌, arith}
use Rattle.save_format.proofs.ByteFieldsLemmas.Encodes.{AreBytes, rest_within}
use Rattle.save_format.proofs.Texts.{encodes_save}
use Rattle.save_format.proofs.reading.judge.Goals as goal

pub overflow_sub-result : goal.overflow_sub-result
overflow_sub-result c =
    let fits : AreBytes c.args.text.now = λ i. omega (arith, c.type_inv.text i) in
    let within : c.in-Err.field.remaining ≤ length c.new-cursor.result = encodes_save.within c.new-cursor.result c.in-Err.field.remaining (subst AreBytes (sym c.new-cursor.ensures) fits) c.in-Err.ensures in
    omega (arith, within, ap length c.new-cursor.ensures)

pub overflow_sub-result-in_default : goal.overflow_sub-result-in_default
overflow_sub-result-in_default c =
    let fits : AreBytes c.args.text.now = λ i. omega (arith, c.type_inv.text i) in
    let within : length c.pass_save.new.cursor ≤ length c.new-cursor.result = rest_within encodes_save c.new-cursor.result c.in-Ok.ensures.0 c.pass_save.new.cursor (subst AreBytes (sym c.new-cursor.ensures) fits) c.in-Ok.ensures.1 in
    omega (arith, within, c.len.ensures, ap length c.new-cursor.ensures)
