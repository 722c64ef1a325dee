-- Pages and ranges of segments, as arithmetic.
use Rattle.std.proofs.Common.{◌≡◌, ◌≤◌, ◌<◌, ℕ, ◌+◌, ◌^◌, Bool, true, false, List, length, get_or, drop, refl, arith, drop-cons, add-one}
use Rattle.std.specs.Prelude.{All, ◌||◌}
use Rattle.std.specs.List.{list_any}
use Rattle.std.proofs.lemmas.Bool.Decides.{nat_tests}
use Rattle.std.proofs.lemmas.List.Folds.{list_any_at}
use Rattle.ddc_base.specs.Limits.{most_address}
use Rattle.elf_load.specs.declared.Segment.{Segment}
use Rattle.paged_mem.specs.Memory.{page_up}
use Rattle.elf_load.specs.Segments.{first_page, page_end, segment_end, is_out_of_range, share_page, any_share}
use Rattle.elf_load.specs.Inside.Checks.{IsLow}

pub page_up_low : (n : ℕ) → n ≤ most_address → page_up n ≤ most_address
page_up_low n h = omega arith

page_up_high : (n : ℕ) → most_address < n → most_address < page_up n
page_up_high n h = omega arith

pub page_up_above : (n : ℕ) → n ≤ page_up n
page_up_above n = omega arith

-- a segment's pages begin below their end
pub first_below_end : (segment : Segment) → first_page segment ≤ page_end segment
unfolding first_page page_end
first_below_end segment = omega arith

pub page_end_low : (segment : Segment) → IsLow segment → page_end segment ≤ most_address
unfolding page_end
page_end_low segment low = page_up_low (segment_end segment) low

-- the cases of a segment that is out of range
pub out_by_size : (size : ℕ) (segment : Segment) → segment.memory_size < segment.file_size → is_out_of_range size segment ≡ true
unfolding is_out_of_range
out_by_size size segment h = grind (arith, nat_tests)

pub out_by_file : (size : ℕ) (segment : Segment) → size < segment.offset + segment.file_size → is_out_of_range size segment ≡ true
unfolding is_out_of_range
out_by_file size segment h = grind (arith, nat_tests)

pub out_by_memory : (size : ℕ) (segment : Segment) → most_address < segment_end segment → is_out_of_range size segment ≡ true
unfolding is_out_of_range page_end
out_by_memory size segment h =
    let high : most_address < page_up (segment_end segment) = page_up_high (segment_end segment) h in
    grind (arith, nat_tests)

pub in_range : (size : ℕ) (segment : Segment) → segment.file_size ≤ segment.memory_size
    → segment.offset + segment.file_size ≤ size → segment_end segment ≤ most_address → is_out_of_range size segment ≡ false
unfolding is_out_of_range page_end
in_range size segment file_size in_size low =
    let fits : page_up (segment_end segment) ≤ most_address = page_up_low (segment_end segment) low in
    grind (arith, nat_tests)

-- what a segment in range is
pub record InRange (size : ℕ) (segment : Segment) : Type 0 where
  pub file_size : segment.file_size ≤ segment.memory_size
  pub in_size : segment.offset + segment.file_size ≤ size
  pub low : page_end segment ≤ most_address

pub range_of : (size : ℕ) (segment : Segment) → is_out_of_range size segment ≡ false → InRange size segment
unfolding is_out_of_range
range_of size segment h = record {
  file_size = grind (arith, nat_tests);
  in_size = grind (arith, nat_tests);
  low = grind (arith, nat_tests);
}

pub low_of : (segment : Segment) → page_end segment ≤ most_address → IsLow segment
unfolding page_end
low_of segment h = let above = page_up_above (segment_end segment) in omega arith

-- where no element passes, each fails
pub none_at : {X : Type 0} (p : X → Bool) (xs : List X) → list_any p xs ≡ false → All (λ x. p x ≡ false) xs
none_at p xs none k d lt =
    let cases : (b : Bool) → p (get_or xs k d) ≡ b → p (get_or xs k d) ≡ false =
    λ b. elim b as (λ v. p (get_or xs k d) ≡ v → p (get_or xs k d) ≡ false) [
      | true ↦ (λ is. let yes : list_any p xs ≡ true = list_any_at p xs k d lt is in cc)
      | false ↦ (λ is. is)
    ] in
    cases (p (get_or xs k d)) refl

pub all_low : (size : ℕ) (segments : List Segment) → list_any (is_out_of_range size) segments ≡ false → All IsLow segments
all_low size segments none k d lt =
    low_of (get_or segments k d)
    ((range_of size (get_or segments k d) (none_at (is_out_of_range size) segments none k d lt)).low)

-- whether two segments of a list share a page, a segment on
pub any_share-on : (segments : List Segment) (i : ℕ) (d : Segment) → i < length segments
    → any_share (drop i segments) ≡ (list_any (share_page (get_or segments i d)) (drop (i + 1) segments) || any_share (drop (i + 1) segments))
any_share-on segments i d lt = rw (add-one, drop-cons segments i d lt) refl

pub ruleset steps_of_shares = (any_share-on)
