use Rattle.std.proofs.Common.{[], ◌≡◌, ◌+◌, ◌-◌, refl, ap, ◌∙◌, get_or, arith}
use Rattle.paged_mem.proofs.InRows.{row_between}
use Rattle.paged_mem.proofs.rows.row_at.Goals as goal

pub returns-then-start-pages-clause-row : goal.returns-then-start-pages-clause-row
returns-then-start-pages-clause-row c = (c.none.ensures.held c.args.pages.now []).in_row

pub returns-clause-row : goal.returns-clause-row
returns-clause-row c =
    let known = c.loop-end.known in
    let start = c.args.start in
    let inv = c.loop-end.invariant in
    let there : start + (known - start) ≡ known = omega (arith, inv.0) in
    row_between c.args.pages.now c.requires.rising c.requires.low start (known - start) (get_or c.args.pages.now start 0) _ _
    (omega (arith, inv.0, inv.1, inv.2)) refl (ap (λ k. get_or c.args.pages.now k 0) there ∙ inv.3) refl refl
