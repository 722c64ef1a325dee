use Rattle.std.proofs.Common.{◌<◌, ◌≤◌, ◌^◌, ◌-◌, length, take, drop, arith, length-drop}
use Rattle.std.proofs.lemmas.List.{length-take}
use Rattle.save_format.proofs.PatchTextLemmas.Written.{higher_is}
use Rattle.save_format.proofs.patch_text.writing.+marks_of.Goals as goal

pub overflow_mul-result : goal.overflow_mul-result
overflow_mul-result t c =
    let few : length (take (length c.args.base.now - 1) (drop 1 c.args.base.now)) ≤ 30 =
    omega (arith, length-take (length c.args.base.now - 1) (drop 1 c.args.base.now), length-drop 1 c.args.base.now, c.requires, c.in-len1-up.len_at_least) in
    let fit : c.marks_of-higher.result < 2 ^ 30 = higher_is c.marks_of-higher.result (take (length c.args.base.now - 1) (drop 1 c.args.base.now)) (take (length c.args.registers.now - 1) (drop 1 c.args.registers.now)) c.marks_of-higher.ensures few in
    omega (arith, fit)

pub overflow_add-result : goal.overflow_add-result
overflow_add-result t c =
    let few : length (take (length c.args.base.now - 1) (drop 1 c.args.base.now)) ≤ 30 =
    omega (arith, length-take (length c.args.base.now - 1) (drop 1 c.args.base.now), length-drop 1 c.args.base.now, c.requires, c.in-len1-up.len_at_least) in
    let fit : c.marks_of-higher.result < 2 ^ 30 = higher_is c.marks_of-higher.result (take (length c.args.base.now - 1) (drop 1 c.args.base.now)) (take (length c.args.registers.now - 1) (drop 1 c.args.registers.now)) c.marks_of-higher.ensures few in
    omega (arith, fit, c.mark_of.ensures.small)
