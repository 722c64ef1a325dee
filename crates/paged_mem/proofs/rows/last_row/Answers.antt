use Rattle.std.proofs.Common.{[], ◌≡◌, ◌+◌, ◌-◌, length, refl, sym, ap, ◌∙◌, get_or, arith}
use Rattle.paged_mem.proofs.InRows.{row_between}
use Rattle.paged_mem.proofs.rows.last_row.Goals as goal

pub returns-then-is_empty : goal.returns-then-is_empty
returns-then-is_empty c = (c.none.ensures.held c.args.pages.now []).in_row

pub returns : goal.returns
returns c =
    let inv = c.loop-start.invariant in
    let known = c.loop-start.known in
    let last = length c.args.pages.now - 1 in
    let there : known + (last - known) ≡ last = omega (arith, inv.1) in
    row_between c.args.pages.now c.requires.rising c.requires.low known (last - known) (get_or c.args.pages.now known 0) _ _
    (omega (arith, inv.1, inv.2)) refl (ap (λ k. get_or c.args.pages.now k 0) there ∙ sym inv.3) refl refl
