use Rattle.std.proofs.Common.{◌≡◌, ◌+◌, ◌-◌, ◌++◌, suc, take, drop, replicate, ap, ◌∙◌, arith, length-take}
use Rattle.std.proofs.Math.ListN.{set}
use Rattle.std.specs.List.{range_with_len}
use Rattle.paged_mem.proofs.InsertedRanges.{numbered_more}
use Rattle.paged_mem.proofs.gaps.insert_numbers.Goals as goal

pub loop-i-preserved : goal.loop-i-preserved
loop-i-preserved c =
    let prefix = take c.args.at c.args.pages.now.items in
    let back = drop c.args.at c.args.pages.now.items in
    let remaining = c.args.count - (c.loop-i.i + 1) in
    let one_more : c.args.count - c.loop-i.i ≡ suc remaining = omega arith in
    let next : suc c.loop-i.i ≡ c.loop-i.i + 1 = omega arith in
    ap (λ xs. set xs (c.args.at + c.loop-i.i) (c.args.number + c.loop-i.i))
    (c.loop-i.invariant ∙ ap (λ n. prefix ++ (range_with_len c.args.number c.loop-i.i ++ (replicate n 0 ++ back))) one_more)
    ∙ numbered_more prefix back c.args.at c.args.number c.loop-i.i remaining (omega (arith, length-take c.args.at c.args.pages.now.items, c.requires.within))
    ∙ ap (λ n. prefix ++ (range_with_len c.args.number n ++ (replicate remaining 0 ++ back))) next
