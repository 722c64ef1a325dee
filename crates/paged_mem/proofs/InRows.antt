-- Rows of pages: that two ends make one, and where an address in one stands.
use Rattle.std.proofs.Common.{◌≡◌, ℕ, ◌+◌, ◌-◌, ◌*◌, ◌/◌, ◌%◌, ◌^◌, ◌<◌, Some, List, length, get_or, ◌∙◌, arith}
use Rattle.paged_mem.specs.Inside.Flat.{page_index, Rises, AreLow}
use Rattle.paged_mem.specs.Inside.Wholeness.{page_index-some}
use Rattle.paged_mem.specs.Inside.Entries.{IsRowOf}
use Rattle.paged_mem.specs.declared.rows.PageRow.{PageRow}
use Rattle.paged_mem.proofs.PageIndices.{page_index-at}
use Rattle.paged_mem.proofs.Spans.{between}

pub row_between : (pages : List ℕ) → Rises pages → AreLow pages → (index more number base size : ℕ) → index + more < length pages
    → get_or pages index 0 ≡ number → get_or pages (index + more) 0 ≡ number + more → base ≡ 4096 * number → size ≡ 4096 * (more + 1)
    → IsRowOf pages (record { base = base; size = size; index = index })
row_between pages rising low index more number base size within first last is_base is_size = record {
  aligned = omega arith;
  low = omega (arith, low (index + more) within);
  within = omega arith;
  numbers = λ k below. (page_index-some pages (number + k) (index + k) (between pages rising index number more first within last k (omega arith))).1 ∙ omega arith;
}

pub page_index-in_row : (pages : List ℕ) → Rises pages → (row : PageRow) → IsRowOf pages row → (at ahead : ℕ) → at < 2 ^ 64
    → ahead ≡ (at + (2 ^ 64 - row.base)) % 2 ^ 64 → ahead < row.size → page_index pages (at / 4096) ≡ Some (row.index + ahead / 4096)
page_index-in_row pages rising row is at ahead fits is_ahead inside =
    let from : at ≡ row.base + ahead = omega (arith, is.low) in
    page_index-at pages rising (at / 4096) (row.index + ahead / 4096) (omega (arith, is.within))
    (is.numbers (ahead / 4096) (omega arith) ∙ omega (arith, is.aligned))
