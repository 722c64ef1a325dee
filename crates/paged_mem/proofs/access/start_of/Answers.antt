use Rattle.std.proofs.Common.{◌/◌, arith}
use Rattle.paged_mem.specs.Inside.Wholeness.{page_index-some}
use Rattle.paged_mem.proofs.Spans.{span_in_page}
use Rattle.paged_mem.proofs.access.start_of.Goals as goal

pub returns-in-Some : goal.returns-in-Some
returns-in-Some c =
    span_in_page c.args.pages.now c.requires.rising c.args.at c.args.count c.in-Some.index (omega arith) (omega arith)
    (c.in-Some.ensures c.args.pages.now c.requires.rising c.requires.rows)

pub overflow_mul-result : goal.overflow_mul-result
overflow_mul-result c =
    let there = page_index-some c.args.pages.now (c.args.at / 4096) c.in-Some.index (c.in-Some.ensures c.args.pages.now c.requires.rising c.requires.rows) in
    omega (arith, there.0, c.requires.few)

pub overflow_add-result : goal.overflow_add-result
overflow_add-result c =
    let there = page_index-some c.args.pages.now (c.args.at / 4096) c.in-Some.index (c.in-Some.ensures c.args.pages.now c.requires.rising c.requires.rows) in
    omega (arith, there.0, c.requires.few)
