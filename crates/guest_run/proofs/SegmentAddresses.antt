-- Where segments and the stack lie in memory.
use Rattle.std.proofs.Common.{◌≡◌, ◌≤◌, ◌<◌, ℕ, suc, ◌+◌, ◌-◌, ◌*◌, ◌/◌, ◌^◌, List, [], ◌∷◌, length, get_or, drop, take, refl, sym, ap, ◌∙◌, arith, true, None, IsSome, is_some, ◌⊎◌, inl, inr, length-take, length-drop, subst}
use Rattle.std.specs.Prelude.{All, AllPairs}
use Rattle.std.specs.List.{fold}
use Rattle.std.specs.FinMap.{empty, get, get-empty}
use Rattle.std.specs.Ordering.{nat_cmp}
use Rattle.ddc_base.specs.Limits.{most_address, stack_size}
use Rattle.paged_mem.specs.Memory.{Memory, IsFree, maps, with_bytes, zeros}
use Rattle.paged_mem.specs.Inside.Wholeness.{get-with_bytes, get-with_bytes_below, get-with_bytes_above}
use Rattle.paged_mem.proofs.Mapped.{length-zeros}
use Rattle.paged_mem.proofs.Maps.{maps_by_each}
use Rattle.elf_load.specs.declared.Segment.{Segment}
use Rattle.elf_load.specs.Segments.{first_page, page_end, paged_size, AreApart, IsPlaced}
use Rattle.elf_load.proofs.Pages.{first_below_end, low_of}
use Rattle.std.proofs.lemmas.List.{get_or-take, get_or_default}
use Rattle.std.proofs.lemmas.List.Elements.{All-take}
use Rattle.guest_run.specs.Stack.{stack_end}
use Rattle.guest_run.specs.Placed.{segment_bytes, with_segment, with_segments}

-- where a segment's pages are, as numbers of pages
pub first_page-is : (segment : Segment) → first_page segment ≡ segment.address / 4096 * 4096
unfolding first_page
first_page-is segment = refl

pub page_end-is : (segment : Segment) → page_end segment ≡ (segment.address + segment.memory_size + 4095) / 4096 * 4096
unfolding page_end
page_end-is segment = refl

pub pages-are : (segment : Segment)
    → paged_size segment ≡ 4096 * ((segment.address + segment.memory_size + 4095) / 4096 - segment.address / 4096)
pages-are segment =
    let first = first_page-is segment in
    let end = page_end-is segment in
    omega arith

pub length-segment_bytes : (program : List ℕ) (segment : Segment) → segment.offset + segment.file_size ≤ length program
    → length (segment_bytes program segment) ≡ segment.file_size
length-segment_bytes program segment within =
    let dropped = length-drop segment.offset program in
    let taken = length-take segment.file_size (drop segment.offset program) in
    omega arith

-- an address that is mapped by a write of bytes
written : (m : Memory) (at : ℕ) (bytes : List ℕ) (q : ℕ) → at ≤ q → q < at + length bytes → IsSome (get (with_bytes m at bytes) q)
written m at bytes q from to = ap is_some (get-with_bytes m at bytes q from to)

-- of an address that is not within the bytes nothing changes
outside : (m : Memory) (at : ℕ) (bytes : List ℕ) (q : ℕ) → (q < at) ⊎ (at + length bytes ≤ q) → get (with_bytes m at bytes) q ≡ get m q
outside m at bytes q (inl below) = get-with_bytes_below m at bytes q below
outside m at bytes q (inr above) = get-with_bytes_above m at bytes q above

-- bytes within pages that were just mapped are mapped
pub maps-within : (m : Memory) (first count at len : ℕ) → first ≤ at → at + len ≤ first + count
    → maps (with_bytes m first (zeros count)) at len ≡ true
maps-within m first count at len from to =
    let size = length-zeros count in
    maps_by_each (with_bytes m first (zeros count)) at len
    (λ q low high. written m first (zeros count) q (omega arith) (omega arith))

-- the pages of a segment hold its bytes
pub segment_within : (segment : Segment) (len : ℕ) → len ≤ segment.memory_size
    → (first_page segment ≤ segment.address) × (segment.address + len ≤ first_page segment + paged_size segment)
segment_within segment len short =
    let first = first_page-is segment in
    let end = page_end-is segment in
    (omega arith, omega arith)

-- an address in none of a segment's pages
abbrev pub IsApart : ℕ → Segment → Type 0
IsApart q segment = (q < first_page segment) ⊎ (page_end segment ≤ q)

segment_apart : (program : List ℕ) (m : Memory) (segment : Segment) (q : ℕ) → IsPlaced (length program) segment → IsApart q segment
    → get (with_segment program m segment) q ≡ get m q
unfolding with_segment
segment_apart program m segment q placed clear =
    let size = length-segment_bytes program segment placed.in_range in
    let pages = length-zeros (paged_size segment) in
    let short = placed.file_size in
    let first = first_page-is segment in
    let end = page_end-is segment in
    outside (with_bytes m (first_page segment) (zeros (paged_size segment))) segment.address (segment_bytes program segment) q
    (elim clear [ inl below ↦ inl (omega arith) | inr above ↦ inr (omega arith) ])
    ∙ outside m (first_page segment) (zeros (paged_size segment)) q
    (elim clear [ inl below ↦ inl below | inr above ↦ inr (omega arith) ])

-- an address beside all segments is as before
folded_apart : (program : List ℕ) (m : Memory) (segments : List Segment) (q : ℕ) → All (IsPlaced (length program)) segments
    → All (IsApart q) segments → get (fold (with_segment program) m segments) q ≡ get m q
folded_apart program m [] q placed clear = refl
folded_apart program m (segment ∷ rest) q placed clear =
    folded_apart program (with_segment program m segment) rest q (λ k d lt. placed (suc k) d (omega arith)) (λ k d lt. clear (suc k) d (omega arith))
    ∙ segment_apart program m segment q (placed 0 segment (omega arith)) (clear 0 segment (omega arith))

pub unmapped_apart : (program : List ℕ) (segments : List Segment) (q : ℕ) → All (IsPlaced (length program)) segments
    → All (IsApart q) segments → get (with_segments program segments) q ≡ None
unmapped_apart program segments q placed clear = folded_apart program empty segments q placed clear ∙ get-empty nat_cmp q

pub placed_low : (size : ℕ) (segment : Segment) → IsPlaced size segment → segment.address + segment.memory_size ≤ most_address
placed_low size segment placed = low_of segment placed.low

-- two segments of a list are apart, so the pages of a later one are free
pub free_ahead : (program : List ℕ) (segments : List Segment) (i : ℕ) (d : Segment) → i < length segments
    → All (IsPlaced (length program)) segments → AllPairs AreApart segments
    → IsFree (with_segments program (take i segments)) (first_page (get_or segments i d)) (paged_size (get_or segments i d))
free_ahead program segments i d lt placed apart q from to =
    let below = first_below_end (get_or segments i d) in
    unmapped_apart program (take i segments) q
    (All-take (IsPlaced (length program)) i segments placed)
    (λ k d' lt'.
    let len = length-take i segments in
    let at : get_or (take i segments) k d' ≡ get_or segments k d' = get_or-take i segments k d' (omega arith) in
    let same : get_or segments i d' ≡ get_or segments i d = get_or_default segments i d' d lt in
    subst (IsApart q) (sym at)
    (elim (apart k i d' (omega arith) lt) [
      | inl before ↦ inr (let b : page_end (get_or segments k d') ≤ first_page (get_or segments i d) = subst (λ (s : Segment). page_end (get_or segments k d') ≤ first_page s) same before in omega arith)
      | inr after ↦ inl (let b : page_end (get_or segments i d) ≤ first_page (get_or segments k d') = subst (λ (s : Segment). page_end s ≤ first_page (get_or segments k d')) same after in omega arith)
    ]))

-- the stack's pages are free
pub stack_free : (program : List ℕ) (segments : List Segment) → All (IsPlaced (length program)) segments
    → IsFree (with_segments program segments) (stack_end - stack_size) stack_size
stack_free program segments placed q from to =
    unmapped_apart program segments q placed
    (λ k d lt. let low = (placed k d lt).low in inr (omega arith))
