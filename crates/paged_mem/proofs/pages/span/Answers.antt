use Rattle.std.proofs.Common.{◌<◌, ◌-◌, ◌+◌, ◌/◌, ◌^◌, sym, arith}
use Rattle.paged_mem.specs.Inside.Wholeness.{page_index-some}
use Rattle.paged_mem.proofs.Spans.{slot_past, span_found, span_ends}
use Rattle.paged_mem.proofs.pages.span.Goals as goal
use Rattle.paged_mem.proofs.pages.span.Goals.{else-more-pages-via-then-more-pages+else-pages-page, else-more-pages-via-else-more-pages}

pub returns-in_default : goal.returns-in_default
returns-in_default c =
    let far : 2 ^ 64 - c.args.at < c.args.count = omega (arith, c.in_default.ensures) in
    (2 ^ 64 - c.args.at, far, slot_past c.args.pages.now c.requires.low (c.args.at + (2 ^ 64 - c.args.at)) (omega arith))

pub overflow_sub-pages : goal.overflow_sub-pages
overflow_sub-pages c =
    let found = page_index-some c.args.pages.now (c.args.at / 4096) c.in-Some-find.page (sym c.in-Some-find.ensures) in
    omega (arith, found.0)

pub returns-then-pages-page : goal.returns-then-pages-page
returns-then-pages-page c =
    span_found c.args.pages.now c.requires.rising c.args.at c.args.count c.in-Some-find.page c.in-Some.last
    (omega arith) (c.in-Some.ensures.1) (sym c.in-Some-find.ensures) (omega arith) c.if-pages-page.true

pub returns-else-more-pages : goal.returns-else-more-pages
returns-else-more-pages c =
    span_ends c.args.pages.now c.requires.rising c.args.at c.args.count c.in-Some-find.page c.in-Some.last
    (omega arith) (c.in-Some.ensures.1) (sym c.in-Some-find.ensures)
    (λ within same. elim c.else-more-pages.branch [
      | else-more-pages-via-then-more-pages+else-pages-page w ↦ w.if-pages-page.false same
      | else-more-pages-via-else-more-pages w ↦ omega arith
    ])
