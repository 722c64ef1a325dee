-- An accepted image is sound.
use Rattle.std.proofs.Common.{◌≡◌, ◌≤◌, ◌<◌, ℕ, zero, suc, ◌%◌, ◌^◌, ◌==◌, Bool, true, false, cond, List, [], ◌∷◌, length, get_or, refl, arith, Option, None, Some, max, inl, inr}
use Rattle.std.specs.Prelude.{All, AllPairs, sum_by, nat_lt, not, ◌||◌, ◌&&◌}
use Rattle.std.specs.List.{list_any, fold}
use Rattle.std.proofs.lemmas.Bool.{cases_lt}
use Rattle.std.proofs.lemmas.Bool.Decides.{nat_tests}
use Rattle.std.proofs.lemmas.List.Elements.{All-same}
use Rattle.std.proofs.lemmas.List.Folds.{Any-from_list_any}
use Rattle.std.proofs.Math.Nat.{le-max_left, le-max_right, max-le}
use Rattle.ddc_base.specs.Limits.{most_address, most_loaded}
use Rattle.elf_load.specs.declared.Segment.{Segment}
use Rattle.elf_load.specs.declared.refusal.ElfRefusal.{ElfRefusal}
use Rattle.elf_load.specs.declared.refusal.ElfRefusal.TheVariants.{NoLoad, TooMany}
use Rattle.elf_load.specs.Fields.{e_entry, p_memsz}
use Rattle.paged_mem.specs.Memory.{page_up}
use Rattle.elf_load.specs.Segments.{first_page, page_end, segment_end, is_out_of_range, is_load, paged_size, segment_at, share_page, any_share, holds_address, break_after, loads_among, segments_of, AreApart}
use Rattle.elf_load.specs.Inside.Checks.{IsLow}
use Rattle.elf_load.specs.Image.{first_refusal, table_rules, placing_rules, entry_rules, accepted_image, IsLoadable}
use Rattle.elf_load.proofs.Pages.{all_low, none_at, range_of, page_up_low}

-- what holds of the first element and of the others
all_onto : {X : Type 0} (P : X → Type 0) (x : X) (xs : List X) → P x → All P xs → All P (x ∷ xs)
all_onto P x xs first others zero d lt = first
all_onto P x xs first others (suc k) d lt = others k d (omega arith)

-- each segment of a table takes memory
some_memory : (file : List ℕ) (header : ℕ) → is_load file header ≡ true → 0 < p_memsz file header
some_memory file header is = grind (arith, nat_tests)

takes_memory : (file : List ℕ) (offsets : List ℕ) → All (λ segment. 0 < segment.memory_size) (loads_among file offsets)
unfolding loads_among
takes_memory file [] k d lt = absurd (omega arith)
takes_memory file (header ∷ rest) k d lt =
    let P : Segment → Type 0 = λ segment. 0 < segment.memory_size in
    let others : All P (loads_among file rest) = takes_memory file rest in
    let cases : (b : Bool) → is_load file header ≡ b → All P (loads_among file (header ∷ rest)) =
    λ b. elim b as (λ v. is_load file header ≡ v → All P (loads_among file (header ∷ rest))) [
      | true ↦ (λ is. All-same P (loads_among file (header ∷ rest)) (segment_at file header ∷ loads_among file rest) (rw is refl)
          (all_onto P (segment_at file header) (loads_among file rest) (some_memory file header is) others))
      | false ↦ (λ is. All-same P (loads_among file (header ∷ rest)) (loads_among file rest) (rw is refl) others)
    ] in
    cases (is_load file header) refl k d lt

-- where no rule fits, no test is true
first_fails : (b : Bool) (refusal : ElfRefusal) (o : Option ElfRefusal) → cond b (Some refusal) o ≡ None → b ≡ false
first_fails true refusal o none = cc
first_fails false refusal o none = refl

others_fail : (b : Bool) (refusal : ElfRefusal) (o : Option ElfRefusal) → cond b (Some refusal) o ≡ None → o ≡ None
others_fail true refusal o none = cc
others_fail false refusal o none = none

or_fails : (a b : Bool) → (a || b) ≡ false → (a ≡ false) × (b ≡ false)
or_fails true b h = cc
or_fails false b h = (refl, h)

and_holds : (a b : Bool) → not (a && b) ≡ false → (a ≡ true) × (b ≡ true)
and_holds true true h = (refl, refl)
and_holds true false h = cc
and_holds false b h = cc

-- segments that share no page are apart
shares_none : (one other : Segment) → share_page one other ≡ false → AreApart one other
shares_none one other none =
    elim (cases_lt (first_page one) (page_end other)) [
      | inl lt ↦ elim (cases_lt (first_page other) (page_end one)) [
        | inl lt' ↦ absurd (let yes : share_page one other ≡ true = grind (arith, nat_tests) in cc)
        | inr above ↦ inl above
      ]
      | inr above ↦ inr above
    ]

all_apart : (segments : List Segment) → any_share segments ≡ false → AllPairs AreApart segments
all_apart [] none i j d lt lt' = absurd (omega arith)
all_apart (segment ∷ rest) none zero zero d lt lt' = absurd (omega arith)
all_apart (segment ∷ rest) none zero (suc j) d lt lt' =
    shares_none segment (get_or rest j d)
    (none_at (share_page segment) rest ((or_fails (list_any (share_page segment) rest) (any_share rest) none).0) j d (omega arith))
all_apart (segment ∷ rest) none (suc i) zero d lt lt' = absurd (omega arith)
all_apart (segment ∷ rest) none (suc i) (suc j) d lt lt' =
    all_apart rest ((or_fails (list_any (share_page segment) rest) (any_share rest) none).1) i j d (omega arith) (omega arith)

-- the greatest end so far and the ends of more segments
abbrev ends_from : ℕ → List Segment → ℕ
ends_from most segments = fold (λ high segment. max high (segment_end segment)) most segments

above_start : (most : ℕ) (segments : List Segment) → most ≤ ends_from most segments
above_start most [] = omega arith
above_start most (segment ∷ rest) =
    let here : most ≤ max most (segment_end segment) = le-max_left most (segment_end segment) in
    let later : max most (segment_end segment) ≤ ends_from (max most (segment_end segment)) rest = above_start (max most (segment_end segment)) rest in
    omega arith

above_each : (most : ℕ) (segments : List Segment) → All (λ segment. segment_end segment ≤ ends_from most segments) segments
above_each most [] k d lt = absurd (omega arith)
above_each most (segment ∷ rest) k d lt =
    let here : segment_end segment ≤ max most (segment_end segment) = le-max_right most (segment_end segment) in
    let later : max most (segment_end segment) ≤ ends_from (max most (segment_end segment)) rest = above_start (max most (segment_end segment)) rest in
    all_onto (λ one. segment_end one ≤ ends_from most (segment ∷ rest)) segment rest (omega arith)
    (above_each (max most (segment_end segment)) rest) k d lt

ends_low : (most : ℕ) (segments : List Segment) → most ≤ most_address → All IsLow segments → ends_from most segments ≤ most_address
ends_low most [] low all = low
ends_low most (segment ∷ rest) low all =
    ends_low (max most (segment_end segment)) rest (max-le low (all 0 segment (omega arith))) (λ k d lt. all (suc k) d (omega arith))

page_up_grows : (m n : ℕ) → m ≤ n → page_up m ≤ page_up n
page_up_grows m n le = omega arith

page_up_whole : (n : ℕ) → page_up n % 4096 ≡ 0
page_up_whole n = omega arith

break_above : (segments : List Segment) → All (λ segment. page_end segment ≤ break_after segments) segments
unfolding page_end
break_above segments k d lt =
    page_up_grows (segment_end (get_or segments k d)) (ends_from 0 segments) (above_each 0 segments k d lt)

entry_aligned : (entry : ℕ) → (entry % 4 == 0) ≡ true → entry % 4 ≡ 0
entry_aligned entry is = grind (arith, nat_tests)

few_of : (n : ℕ) → nat_lt 16 n ≡ false → n ≤ 16
few_of n is = grind (arith, nat_tests)

some_of : (n : ℕ) → (n == 0) ≡ false → 0 < n
some_of n is = grind (arith, nat_tests)

together_of : (n : ℕ) → nat_lt most_loaded n ≡ false → n ≤ most_loaded
together_of n is = grind (arith, nat_tests)

-- an image whose file no rule refuses
pub sound : (file : List ℕ) (size : ℕ)
    → first_refusal (table_rules file) ≡ None
    → first_refusal (placing_rules size (segments_of file)) ≡ None
    → first_refusal (entry_rules (e_entry file) (segments_of file)) ≡ None
    → IsLoadable size (accepted_image file)
unfolding table_rules placing_rules entry_rules
sound file size table placing entry =
    let counted : first_refusal ((length (segments_of file) == 0, NoLoad) ∷ (nat_lt 16 (length (segments_of file)), TooMany) ∷ []) ≡ None = others_fail _ _ _ table in
    let some : (length (segments_of file) == 0) ≡ false = first_fails _ _ _ counted in
    let few : nat_lt 16 (length (segments_of file)) ≡ false = first_fails _ _ _ (others_fail _ _ _ counted) in
    let ranged = or_fails (list_any (is_out_of_range size) (segments_of file)) (nat_lt most_loaded (sum_by paged_size (segments_of file))) (first_fails _ _ _ placing) in
    let shared : any_share (segments_of file) ≡ false = first_fails _ _ _ (others_fail _ _ _ placing) in
    let inside = and_holds (e_entry file % 4 == 0) (list_any (holds_address (e_entry file)) (segments_of file)) (first_fails _ _ _ entry) in
    record {
      some = some_of _ some;
      few = few_of _ few;
      placed = λ k d lt.
          let here = range_of size (get_or (segments_of file) k d) (none_at (is_out_of_range size) (segments_of file) ranged.0 k d lt) in
          record {
            is_there = takes_memory file _ k d lt;
            file_size = here.file_size;
            in_range = here.in_size;
            low = here.low;
          };
      apart = all_apart (segments_of file) shared;
      together = together_of _ ranged.1;
      entry_aligned = entry_aligned (e_entry file) inside.0;
      entry_inside = Any-from_list_any (holds_address (e_entry file)) (segments_of file) inside.1;
      break_aligned = page_up_whole (ends_from 0 (segments_of file));
      break_above = break_above (segments_of file);
      break_low = page_up_low (ends_from 0 (segments_of file)) (ends_low 0 (segments_of file) (omega arith) (all_low size (segments_of file) ranged.0));
    }
