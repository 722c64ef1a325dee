use Rattle.std.proofs.Common.{◌≡◌, get_or, None, sym, ap, arith, ◌∙◌}
use Rattle.mem_files.proofs.Keeping.{by_eq}
use Rattle.mem_files.proofs.cells.full_from.Goals as goal

pub loop-at-preserved : goal.loop-at-preserved
loop-at-preserved g c q low high =
    let here : get_or c.args.cells.now c.loop-at.at None ≡ None =
    sym (ap (get_or c.args.cells.now c.loop-at.at) c.in_default.is) ∙ sym c.index-cells-at.is ∙ c.in_default.is in
    by_eq q c.loop-at.at (λ same. ap (λ k. get_or c.args.cells.now k None) same ∙ here) (λ apart. c.loop-at.invariant q low (omega arith))
