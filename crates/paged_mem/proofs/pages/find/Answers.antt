use Rattle.std.proofs.Common.{sym, ◌∙◌, length, arith}
use Rattle.paged_mem.proofs.PageIndices.{page_index-none, page_index-tested, page_index-untested}
use Rattle.std.proofs.lemmas.Bool.{eqb-true}
use Rattle.paged_mem.proofs.pages.find.Goals as goal

pub returns-then-is_empty : goal.returns-then-is_empty
returns-then-is_empty c = sym (page_index-none c.args.pages.now c.args.number (λ k within. absurd (omega (arith, eqb-true (length c.args.pages.now) 0 (sym c.is_empty.ensures ∙ c.if-is_empty.true)))))

pub returns-then-is_at : goal.returns-then-is_at
returns-then-is_at c = sym (page_index-tested c.args.pages.now c.requires c.args.number _ c.is_at.result c.is_at.ensures c.if-is_at.true)

pub returns-then-is_at-2 : goal.returns-then-is_at-2
returns-then-is_at-2 c = sym (page_index-tested c.args.pages.now c.requires c.args.number _ c.is_at-2.result c.is_at-2.ensures c.if-is_at-2.true)

pub returns-then-is_at-3 : goal.returns-then-is_at-3
returns-then-is_at-3 c = sym (page_index-tested c.args.pages.now c.requires c.args.number _ c.is_at-3.result c.is_at-3.ensures c.if-is_at-3.true)

pub returns-else-is_at-3 : goal.returns-else-is_at-3
returns-else-is_at-3 c = sym (page_index-untested c.args.pages.now c.requires c.args.number _ c.is_at-3.result c.is_at-3.ensures c.rank-rank.ensures c.if-is_at-3.false)
