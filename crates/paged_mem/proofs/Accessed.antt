-- What pages and entries answer at an address, and what they are after a write.
use Rattle.std.proofs.Common.{◌≡◌, ◌≢◌, ℕ, zero, suc, ◌+◌, ◌-◌, ◌*◌, ◌/◌, ◌%◌, ◌^◌, ◌<◌, ◌≤◌, Option, None, Some, is_some, IsSome, Bool, true, false, List, [], ◌∷◌, ◌++◌, length, get_or, take, drop, refl, sym, ap, ◌∙◌, arith, ◌⊎◌, inl, inr, length-drop, length-set, length-take, ◌==◌}
use Rattle.std.specs.Option.{option_map}
use Rattle.std.specs.Int.{to_le_bytes, w64}
use Rattle.std.proofs.lemmas.Grind.{same_number_lists}
use Rattle.std.proofs.Math.ListN.{set}
use Rattle.std.proofs.Math.Seq.{take-append_seam}
use Rattle.std.proofs.lemmas.Bool.{cases_lt, eqb-true, false≢true}
use Rattle.std.proofs.lemmas.Option.{none-some, same_Some}
use Rattle.std.proofs.lemmas.List.{get_or_default, get_or-drop, get_or-take}
use Rattle.paged_mem.specs.Memory.{Memory, maps, bytes_at, bytes_of, reads, with_bytes}
use Rattle.paged_mem.specs.Inside.Flat.{memory_of, page_index, slot, Spans, overwritten, number_at}
use Rattle.paged_mem.specs.Inside.Wholeness.{page_index-some}
use Rattle.paged_mem.specs.Inside.Entries.{Entry, ArePages, AreFull, IsHeldPage, page_content, flat, held_pages}
use Rattle.paged_mem.specs.Paged.{TouchesUnheld}
use Rattle.paged_mem.specs.declared.rows.PageRow.{PageRow}
use Rattle.paged_mem.proofs.InRows.{page_index-in_row}
use Rattle.paged_mem.specs.Ram.{count_of}
use Rattle.paged_mem.specs.declared.ram.Width.{Width}
use Rattle.paged_mem.specs.declared.ram.Width.TheVariants.{W1, W2, W4, W8}
use Rattle.paged_mem.proofs.Flats.{AreFull-set, flat-set, get-flat, held_pages-same, is_some-set, length-flat}
use Rattle.paged_mem.proofs.Numbers.{take-to_le_bytes}
use Rattle.paged_mem.proofs.PageIndices.{few_pages, page_index-at}
use Rattle.paged_mem.proofs.Seen.{bytes_seen, maps_seen, number_read, written}
use Rattle.paged_mem.proofs.Spans.{span_in_page}
use Rattle.paged_mem.proofs.Views.{length-overwritten, small-overwritten}

pub count_some : (width : Width) → 0 < count_of width
count_some W1 = omega arith
count_some W2 = omega arith
count_some W4 = omega arith
count_some W8 = omega arith

pub number_at-flat : (entries : List Entry) → AreFull entries → (index low count : ℕ) (entry : Entry) → index < length entries → low + count ≤ 4096
    → entry ≡ get_or entries index entry → number_at (page_content entry) low count ≡ number_at (flat entries) (4096 * index + low) count
number_at-flat entries full index low zero entry within fits at = refl
number_at-flat entries full index low (suc count) entry within fits at =
    let here : get_or (flat entries) (4096 * index + low) 0 ≡ get_or (page_content entry) low 0 =
    get-flat entries full index low within (omega arith) ∙ ap (λ e. get_or (page_content e) low 0) (get_or_default entries index None entry within ∙ sym at) in
    let rest = number_at-flat entries full index (1 + low) count entry within (omega arith) at in
    let next : number_at (flat entries) (4096 * index + (1 + low)) count ≡ number_at (flat entries) (1 + (4096 * index + low)) count = ap (λ s. number_at (flat entries) s count) (omega arith) in
    omega arith

module _ (pages : List ℕ) (entries : List Entry) (are : ArePages pages entries) where
  pub few : 4096 * length pages < 2 ^ 64
  few = omega (arith, few_pages pages are.sound.rising are.sound.low)

  pub few_entries : 4096 * length entries < 2 ^ 64
  few_entries = omega (arith, few, are.long)

  pub index_within : (number index : ℕ) → page_index pages number ≡ Some index → index < length entries
  index_within number index found = omega (arith, (page_index-some pages number index found).0, are.long)

  -- the number of an access within a page
  pub read_near : (at index count value : ℕ) (entry : Entry) → 0 < count → at % 4096 + count ≤ 4096 → page_index pages (at / 4096) ≡ Some index
      → entry ≡ get_or entries index entry → value ≡ number_at (page_content entry) (at % 4096) count
      → Some value ≡ reads (memory_of pages (flat entries)) at count
  read_near at index count value entry some within found is value_is =
      number_read pages (flat entries) pages (memory_of pages (flat entries)) are.sound refl refl at count (flat entries) (4096 * index + at % 4096) count value
      refl refl (span_in_page pages are.sound.rising at count index some within found)
      (value_is ∙ number_at-flat entries are.full index (at % 4096) count entry (index_within (at / 4096) index found) within is)

  -- after bytes were written over a span
  pub are_written : (at start : ℕ) (source : List ℕ) (new : List Entry) → flat new ≡ overwritten (flat entries) start source → length new ≡ length entries
      → AreFull new → Spans pages at (length source) (Some start) → ((i : ℕ) → get_or source i 0 < 256) → ArePages pages new
  are_written at start source new is long full span small =
      let within : start + length source ≤ length (flat entries) = omega (arith, span.0, are.sound.full) in
      record {
        sound = record {
          rising = are.sound.rising;
          low = are.sound.low;
          full = ap length is ∙ length-overwritten (flat entries) start source within ∙ are.sound.full;
          small = λ i. omega (arith, ap (λ xs. get_or xs i 0) is, small-overwritten (flat entries) start source within are.sound.small small i);
        };
        long = long ∙ are.long;
        full = full;
      }

  pub memory_written : (at start : ℕ) (source : List ℕ) (new : List Entry) → flat new ≡ overwritten (flat entries) start source
      → Spans pages at (length source) (Some start)
      → (maps (memory_of pages (flat entries)) at (length source) ≡ true) × (memory_of pages (flat new) ≡ with_bytes (memory_of pages (flat entries)) at source)
  memory_written at start source new is span = (
    maps_seen pages (flat entries) pages (memory_of pages (flat entries)) are.sound refl refl at (length source) (Some start) span,
    written pages (flat entries) pages (memory_of pages (flat entries)) are.sound refl refl at start source (flat new) span is,
  )

  -- after bytes were written within a page
  module _ (at index : ℕ) (source : List ℕ) (entry default : Entry) (some : 0 < length source) (inside : at % 4096 + length source ≤ 4096)
      (found : page_index pages (at / 4096) ≡ Some index) (put : page_content entry ≡ overwritten (page_content (get_or entries index default)) (at % 4096) source) where
    flat_near : flat (set entries index entry) ≡ overwritten (flat entries) (4096 * index + at % 4096) source
    flat_near =
        flat-set entries index (at % 4096) source entry are.full (index_within (at / 4096) index found) inside
        (put ∙ ap (λ e. overwritten (page_content e) (at % 4096) source) (get_or_default entries index default None (index_within (at / 4096) index found)))

    pub memory_near : (maps (memory_of pages (flat entries)) at (length source) ≡ true)
        × (memory_of pages (flat (set entries index entry)) ≡ with_bytes (memory_of pages (flat entries)) at source)
    memory_near =
        memory_written at (4096 * index + at % 4096) source (set entries index entry) flat_near (span_in_page pages are.sound.rising at (length source) index some inside found)

    pub are_near : length (page_content entry) ≡ 4096 → ((i : ℕ) → get_or source i 0 < 256) → ArePages pages (set entries index entry)
    are_near full small =
        are_written at (4096 * index + at % 4096) source (set entries index entry) flat_near (length-set entries index entry)
        (AreFull-set entries index entry are.full full) (span_in_page pages are.sound.rising at (length source) index some inside found) small

  pub held_near : (number index : ℕ) (entry default : Entry) → page_index pages number ≡ Some index → IsSome (get_or entries index default) → IsSome entry
      → held_pages pages (set entries index entry) ≡ held_pages pages entries
  held_near number index entry default found was is =
      held_pages-same pages (set entries index entry) entries (length-set entries index entry)
      (is_some-set entries index entry (is ∙ sym (ap is_some (get_or_default entries index None default (index_within number index found)) ∙ was)))

-- entries that were changed through a slice
pub refilled : (count : ℕ) (new old : List Entry) → length new ≡ count → take count (new ++ drop (length new) old) ≡ new
refilled count new old same = ap (λ k. take k (new ++ drop (length new) old)) (sym same) ∙ take-append_seam new (drop (length new) old)

-- ---- a page that is remembered

pub held_found : (pages : List ℕ) (entries : List Entry) → ArePages pages entries → (at index : ℕ) (entry : Entry) → page_index pages (at / 4096) ≡ Some index
    → entry ≡ get_or entries index entry → IsSome entry → IsHeldPage pages entries (record { base = at - at % 4096; size = 4096; index = index })
held_found pages entries are at index entry found here is =
    let there = page_index-some pages (at / 4096) index found in
    let low = are.sound.low index there.0 in
    record {
      in_row = record {
        aligned = omega arith;
        low = omega (arith, low, there.1);
        within = omega (arith, there.0);
        numbers = λ k below. ap (λ n. get_or pages n 0) (omega (arith, below)) ∙ there.1 ∙ omega (arith, below);
      };
      one = omega arith;
      held = λ some. ap is_some (get_or_default entries index None entry (index_within pages entries are (at / 4096) index found) ∙ sym here) ∙ is;
    }

pub held_read : (pages : List ℕ) (entries : List Entry) → ArePages pages entries → (page : PageRow) → IsHeldPage pages entries page
    → (at ahead value : ℕ) (entry : Entry) → at < 2 ^ 64 → at % 4 ≡ 0 → ahead ≡ (at + (2 ^ 64 - page.base)) % 2 ^ 64 → ahead < page.size
    → entry ≡ get_or entries page.index entry → value ≡ number_at (page_content entry) ahead 4 → reads (memory_of pages (flat entries)) at 4 ≡ Some value
held_read pages entries are page is at ahead value entry fits aligned is_ahead below here value_is =
    let from : at ≡ page.base + ahead = omega (arith, is.in_row.low) in
    let low : ahead ≡ at % 4096 = omega (arith, from, is.in_row.aligned, is.one) in
    let index : page.index + ahead / 4096 ≡ page.index = omega (arith, is.one) in
    sym (read_near pages entries are at page.index 4 value entry (omega arith) (omega (arith, low, is.one, aligned))
    (page_index-in_row pages are.sound.rising page is.in_row at ahead fits is_ahead below ∙ ap Some index) here
    (value_is ∙ ap (λ l. number_at (page_content entry) l 4) low))

-- the address of a span at a place
in_slot : (pages : List ℕ) (at s : ℕ) → slot pages at ≡ Some s → (get_or pages (s / 4096) 0 ≡ at / 4096) × (s % 4096 ≡ at % 4096)
in_slot pages at s e = by_place (page_index pages (at / 4096)) refl e
  where
    by_place : (o : Option ℕ) → page_index pages (at / 4096) ≡ o → option_map (λ i. 4096 * i + at % 4096) o ≡ Some s
        → (get_or pages (s / 4096) 0 ≡ at / 4096) × (s % 4096 ≡ at % 4096)
    by_place None was e = absurd (none-some s e)
    by_place (Some i) was e =
        let is : 4096 * i + at % 4096 ≡ s = same_Some _ _ e in
        (ap (λ k. get_or pages k 0) (omega arith) ∙ (page_index-some pages (at / 4096) i was).1, omega arith)

-- a span begins as far into its page as its first address
pub span_low : (pages : List ℕ) (at count start : ℕ) → 0 < count → Spans pages at count (Some start) → start % 4096 ≡ at % 4096
span_low pages at count start some span =
    let first : start + 0 ≡ start = omega arith in
    let same : at + 0 ≡ at = omega arith in
    (in_slot pages at start (ap (slot pages) (sym same) ∙ span.1 0 some ∙ ap Some first)).1

-- the page at a place of a span has one of its addresses
span_page : (pages : List ℕ) (at count start k : ℕ) → 0 < count → Spans pages at count (Some start) → start / 4096 ≤ k → 4096 * k < start + count
    → (at / 4096 ≤ get_or pages k 0) × (4096 * get_or pages k 0 < at + count)
span_page pages at count start k some span from to = by_order (cases_lt (4096 * k) start)
  where
    here : (j : ℕ) → j < count → (start + j) / 4096 ≡ k → (at + j) / 4096 ≡ get_or pages k 0
    here j below is = sym (in_slot pages (at + j) (start + j) (span.1 j below)).0 ∙ ap (λ n. get_or pages n 0) is

    by_order : (4096 * k < start) ⊎ (start ≤ 4096 * k) → (at / 4096 ≤ get_or pages k 0) × (4096 * get_or pages k 0 < at + count)
    by_order (inl before) =
        let first = here 0 some (omega arith) in
        (omega arith, omega arith)
    by_order (inr after) =
        let j = 4096 * k - start in
        let page = here j (omega arith) (omega arith) in
        (omega arith, omega arith)

-- a page whose entry holds nothing is not among those that are held
unheld : (pages : List ℕ) (entries : List Entry) (page : ℕ) → ((k : ℕ) → k < length pages → IsSome (get_or entries k None) → get_or pages k 0 ≢ page)
    → (k : ℕ) → k < length (held_pages pages entries) → get_or (held_pages pages entries) k 0 ≢ page
unfolding held_pages
unheld [] entries page apart k below e = omega arith
unheld (first ∷ pages) [] page apart k below e = omega arith
unheld (first ∷ pages) (None ∷ entries) page apart k below e = unheld pages entries page (λ n within. apart (suc n) (omega arith)) k below e
unheld (first ∷ pages) (Some bytes ∷ entries) page apart zero below e = apart 0 (omega arith) refl e
unheld (first ∷ pages) (Some bytes ∷ entries) page apart (suc k) below e = unheld pages entries page (λ n within. apart (suc n) (omega arith)) k (omega arith) e

pub touches_unheld : (pages : List ℕ) (entries : List Entry) → ArePages pages entries → (at count start k : ℕ) → 0 < count → Spans pages at count (Some start)
    → start / 4096 ≤ k → 4096 * k < start + count → get_or entries k None ≡ None → TouchesUnheld (held_pages pages entries) at count
touches_unheld pages entries are at count start k some span from to absent =
    let within : k < length pages = omega (arith, span.0) in
    let page = span_page pages at count start k some span from to in
    (get_or pages k 0, page.0, page.1, unheld pages entries (get_or pages k 0) (λ n below held same. apart n below held same))
  where
    apart : (n : ℕ) → n < length pages → IsSome (get_or entries n None) → get_or pages n 0 ≢ get_or pages k 0
    apart n below held same =
        let within : k < length pages = omega (arith, span.0) in
        let at_n = page_index-at pages are.sound.rising (get_or pages k 0) n below same in
        let at_k = page_index-at pages are.sound.rising (get_or pages k 0) k within refl in
        let one : n ≡ k = same_Some n k (sym at_n ∙ at_k) in
        let clash : ◌≡◌ {A = Bool} false true = sym (ap is_some (ap (λ i. get_or entries i None) one ∙ absent)) ∙ held in
        absurd (false≢true clash)

-- ---- what the functions meet

pub positive : (n : ℕ) → (n == 0) ≡ false → 0 < n
positive zero test = cc
positive (suc n) test = omega arith

pub nothing_written : (m : Memory) (at : ℕ) (source : List ℕ) → (length source == 0) ≡ true
    → (maps m at (length source) ≡ true) × (m ≡ with_bytes m at source)
unfolding bytes_at with_bytes
nothing_written m at [] test = (refl, refl)
nothing_written m at (byte ∷ source) test = absurd (omega (arith, eqb-true _ _ test))

pub small-bytes_of : (count value i : ℕ) → get_or (bytes_of count value) i 0 < 256
unfolding bytes_of
small-bytes_of zero value i = omega arith
small-bytes_of (suc count) value zero = omega arith
small-bytes_of (suc count) value (suc i) = small-bytes_of count (value / 256) i

pub low_bytes : (width : Width) (value count : ℕ) (bytes : List ℕ) → count ≡ count_of width → bytes ≡ to_le_bytes w64 value
    → take count bytes ≡ bytes_of (count_of width) value
low_bytes width value count bytes same is =
    ap (λ n. take n bytes) same ∙ ap (take (count_of width)) is ∙ take-to_le_bytes (count_of width) value (at_most width)
  where
    at_most : (width : Width) → count_of width ≤ 8
    at_most W1 = omega arith
    at_most W2 = omega arith
    at_most W4 = omega arith
    at_most W8 = omega arith

-- the page at an address is its entry's
pub page_shown : (pages : List ℕ) (entries : List Entry) → ArePages pages entries → (first index : ℕ) (entry : Entry) → first % 4096 ≡ 0
    → page_index pages (first / 4096) ≡ Some index → entry ≡ get_or entries index entry
    → Some (page_content entry) ≡ bytes_at (memory_of pages (flat entries)) first 4096
page_shown pages entries are first index entry aligned found at =
    ap Some (same_number_lists (page_content entry) (take 4096 (drop start (flat entries)))
    (omega (arith, long, length-take 4096 (drop start (flat entries)), length-drop start (flat entries), length-flat entries are.full, within))
    (λ k below.
    ap (λ e. get_or (page_content e) k 0) page_is
    ∙ sym (get-flat entries are.full index k within (omega (arith, long)))
    ∙ ap (λ n. get_or (flat entries) n 0) (omega arith)
    ∙ sym (get_or-take 4096 (drop start (flat entries)) k 0 (omega (arith, long)) ∙ get_or-drop start (flat entries) k 0)))
    ∙ sym (bytes_seen pages (flat entries) pages (memory_of pages (flat entries)) are.sound refl refl first 4096 start
    (span_in_page pages are.sound.rising first 4096 index (omega arith) (omega arith) found))
  where
    start : ℕ
    start = 4096 * index + first % 4096

    within : index < length entries
    within = index_within pages entries are (first / 4096) index found

    page_is : entry ≡ get_or entries index None
    page_is = at ∙ get_or_default entries index entry None within

    long : length (page_content entry) ≡ 4096
    long = ap (λ e. length (page_content e)) page_is ∙ are.full index
