-- A walk over numbers by "the least one from another on".
use Rattle.std.proofs.Common.{◌≡◌, ℕ, ◌+◌, ◌<◌, ◌≤◌, Bool, true, false, cond, T, nat_le, List, [], ◌∷◌, ◌++◌, map, filter, find, Option, Some, None, is_some, IsSome, option_map, refl, sym, ap, subst, ◌∙◌, arith, append_assoc, append-nil}
use Rattle.ddc_base.specs.Limits.{file_number_end}
use Rattle.std.specs.Ordering.{eq_by_cmp, nat_cmp}
use Rattle.std.specs.FinMap as fin
use Rattle.std.specs.FinMap.Entries.{below_all}
use Rattle.std.proofs.lemmas.Bool.Decides.{nat_tests}
use Rattle.std.proofs.lemmas.Option.{none-some, same_Some}
use Rattle.mem_files.specs.declared.open_file.OpenFile.{OpenFile}
use Rattle.mem_files.specs.Sound.{IsSound}
use Rattle.mem_files.specs.World.{World}
use Rattle.mem_files.specs.Lists.{ListedFile, listed_file, first_from, file_from, open_file_from}
use Rattle.mem_files.proofs.Maps.{both, find_here, head_above, rest_above}
use Rattle.mem_files.proofs.Entries.{some_of}

-- the entries from a number on
abbrev pub left_from : {X : Type 0} → ℕ → List (ℕ × X) → List (ℕ × X)
left_from n es = filter (λ e. nat_le n e.0) es

module _ {X : Type 0} where
  all_left : (n a : ℕ) (es : List (ℕ × X)) → T (below_all nat_cmp a es) → n ≤ a + 1 → left_from n es ≡ es
  all_left n a [] below low = refl
  all_left n a (e ∷ es) below low =
      let above = head_above a e es below in
      let test : nat_le n e.0 ≡ true = (grind (arith, nat_tests)) in
      ap (λ b. cond b (e ∷ left_from n es) (left_from n es)) test ∙ ap (λ rest. e ∷ rest) (all_left n a es (rest_above a e es below) low)

  passed : (n : ℕ) (e : ℕ × X) (es : List (ℕ × X)) → find (λ e. nat_le n e.0) es ≡ Some e → n ≤ e.0
  passed n e [] is = absurd (none-some e is)
  passed n e (x ∷ es) is = elim (nat_le n x.0) as (λ b. nat_le n x.0 ≡ b → cond b (Some x) (find (λ e. nat_le n e.0) es) ≡ Some e → n ≤ e.0) [
    | true ↦ λ t here. let from : n ≤ x.0 = (grind (arith, nat_tests)) in subst (λ (e : ℕ × X). n ≤ e.0) (same_Some x e here) from
    | false ↦ λ _ later. passed n e es later
  ] refl is

  next_left : (n : ℕ) (e : ℕ × X) (es : List (ℕ × X)) → T (fin.is_sorted nat_cmp es) → find (λ e. nat_le n e.0) es ≡ Some e → left_from n es ≡ e ∷ left_from (e.0 + 1) es
  next_left n e [] sorted is = absurd (none-some e is)
  next_left n e (x ∷ es) sorted is =
      let parts = both (below_all nat_cmp x.0 es) (fin.is_sorted nat_cmp es) sorted in
      elim (nat_le n x.0) as (λ b. nat_le n x.0 ≡ b → cond b (Some x) (find (λ e. nat_le n e.0) es) ≡ Some e → cond b (x ∷ left_from n es) (left_from n es) ≡ e ∷ left_from (e.0 + 1) (x ∷ es)) [
        | true ↦ λ t here.
            let from : n ≤ x.0 = (grind (arith, nat_tests)) in
            let over : nat_le (x.0 + 1) x.0 ≡ false = (grind (arith, nat_tests)) in
            let rest : left_from (x.0 + 1) (x ∷ es) ≡ es = ap (λ b. cond b (x ∷ left_from (x.0 + 1) es) (left_from (x.0 + 1) es)) over ∙ all_left (x.0 + 1) x.0 es parts.0 (omega arith) in
            subst (λ (e : ℕ × X). x ∷ left_from n es ≡ e ∷ left_from (e.0 + 1) (x ∷ es)) (same_Some x e here) (ap (λ rest. x ∷ rest) (all_left n x.0 es parts.0 (omega arith) ∙ sym rest))
        | false ↦ λ f later.
            let from = passed n e es later in
            let under : nat_le (e.0 + 1) x.0 ≡ false = (grind (arith, nat_tests)) in
            next_left n e es parts.1 later ∙ ap (λ rest. e ∷ rest) (sym (ap (λ b. cond b (x ∷ left_from (e.0 + 1) es) (left_from (e.0 + 1) es)) under))
      ] refl is

  none_left : (n : ℕ) (es : List (ℕ × X)) → find (λ e. nat_le n e.0) es ≡ None → left_from n es ≡ []
  none_left n [] is = refl
  none_left n (x ∷ es) is = elim (nat_le n x.0) as (λ b. cond b (Some x) (find (λ e. nat_le n e.0) es) ≡ None → cond b (x ∷ left_from n es) (left_from n es) ≡ []) [
    | true ↦ λ here. absurd (none-some x (sym here))
    | false ↦ λ later. none_left n es later
  ] is

  all_from_zero : (es : List (ℕ × X)) → left_from 0 es ≡ es
  all_from_zero [] = refl
  all_from_zero (e ∷ es) = let test : nat_le 0 e.0 ≡ true = (grind (arith, nat_tests)) in
      ap (λ b. cond b (e ∷ left_from 0 es) (left_from 0 es)) test ∙ ap (λ rest. e ∷ rest) (all_from_zero es)

-- the walk over the values of a map, each shown by a function
module _ {X Y : Type 0} (m : fin.FinMap nat_cmp X) (show : ℕ × X → Y) where
  pub walk_starts : [] ++ map show (left_from 0 (fin.entries m)) ≡ map show (fin.entries m)
  walk_starts = ap (map show) (all_from_zero (fin.entries m))

  pub walk_goes_on : (n : ℕ) (e : ℕ × X) (found : List Y) (shown : Y) → first_from m n ≡ Some e → show e ≡ shown → found ++ map show (left_from n (fin.entries m)) ≡ map show (fin.entries m)
      → (found ++ shown ∷ []) ++ map show (left_from (e.0 + 1) (fin.entries m)) ≡ map show (fin.entries m)
  walk_goes_on n e found shown is same so_far =
      append_assoc found (shown ∷ []) (map show (left_from (e.0 + 1) (fin.entries m)))
      ∙ ap (λ y. found ++ y ∷ map show (left_from (e.0 + 1) (fin.entries m))) (sym same)
      ∙ ap (λ es. found ++ map show es) (sym (next_left n e (fin.entries m) (fin.entries_sorted m) is)) ∙ so_far

  pub walk_ends : (n : ℕ) (found : List Y) → first_from m n ≡ None → found ++ map show (left_from n (fin.entries m)) ≡ map show (fin.entries m) → found ≡ map show (fin.entries m)
  walk_ends n found is so_far = sym (append-nil found) ∙ ap (λ es. found ++ map show es) (sym (none_left n (fin.entries m) is)) ∙ so_far

  pub walk_rises : (n : ℕ) (e : ℕ × X) → first_from m n ≡ Some e → n ≤ e.0
  walk_rises n e is = passed n e (fin.entries m) is

  some_kept : (b : Bool) (x : X) (o : Option X) → is_some o ≡ true → is_some (cond b (Some x) o) ≡ true
  some_kept true x o h = refl
  some_kept false x o h = h

  found_in : (n : ℕ) (e : ℕ × X) (es : List (ℕ × X)) → find (λ e. nat_le n e.0) es ≡ Some e → is_some (fin.find nat_cmp e.0 es) ≡ true
  found_in n e [] is = absurd (none-some e is)
  found_in n e (x ∷ es) is = elim (nat_le n x.0) as (λ b. cond b (Some x) (find (λ e. nat_le n e.0) es) ≡ Some e → is_some (fin.find nat_cmp e.0 (x ∷ es)) ≡ true) [
    | true ↦ λ here. subst (λ (e : ℕ × X). is_some (fin.find nat_cmp e.0 (x ∷ es)) ≡ true) (same_Some x e here) (ap is_some (find_here x.0 x es refl))
    | false ↦ λ later. some_kept (eq_by_cmp nat_cmp e.0 x.0) x.1 (fin.find nat_cmp e.0 es) (found_in n e es later)
  ] is

  pub walk_finds : (n : ℕ) (e : ℕ × X) → first_from m n ≡ Some e → IsSome (fin.get m e.0)
  walk_finds n e is = ap is_some (fin.get-entries m e.0) ∙ found_in n e (fin.entries m) is

-- the entry of a file that is shown
pub file_found : (w : World) (n : ℕ) (shown : ListedFile) → file_from w n ≡ Some shown → (e : ℕ × List ℕ) × (first_from w.files n ≡ Some e) × (listed_file w e ≡ shown)
file_found w n shown is = at (first_from w.files n) refl is
  where
    at : (o : Option (ℕ × List ℕ)) → first_from w.files n ≡ o → option_map (listed_file w) o ≡ Some shown → (e : ℕ × List ℕ) × (first_from w.files n ≡ Some e) × (listed_file w e ≡ shown)
    at None was is = absurd (none-some shown is)
    at (Some e) was is = (e, was, same_Some (listed_file w e) shown is)

pub file_none : (w : World) (n : ℕ) → file_from w n ≡ None → first_from w.files n ≡ None
file_none w n is = at (first_from w.files n) is
  where
    at : (o : Option (ℕ × List ℕ)) → option_map (listed_file w) o ≡ None → o ≡ None
    at None is = refl
    at (Some e) is = absurd (none-some (listed_file w e) (sym is))

-- a file more
pub file_listed : (w : World) (n : ℕ) (found : List ListedFile) (shown : ListedFile) → IsSound w → file_from w n ≡ Some shown
    → found ++ map (listed_file w) (left_from n (fin.entries w.files)) ≡ map (listed_file w) (fin.entries w.files)
    → (n ≤ shown.number) × (shown.number < file_number_end) × ((found ++ shown ∷ []) ++ map (listed_file w) (left_from (shown.number + 1) (fin.entries w.files)) ≡ map (listed_file w) (fin.entries w.files))
file_listed w n found shown sound is so_far =
    let entry = file_found w n shown is in
    let same : entry.0.0 ≡ shown.number = ap (λ (f : ListedFile). f.number) entry.2 in (
      subst (λ k. n ≤ k) same (walk_rises w.files (listed_file w) n entry.0 entry.1),
      subst (λ k. k < file_number_end) same (sound.within.low_numbers entry.0.0 (walk_finds w.files (listed_file w) n entry.0 entry.1)),
      subst (λ k. (found ++ shown ∷ []) ++ map (listed_file w) (left_from (k + 1) (fin.entries w.files)) ≡ map (listed_file w) (fin.entries w.files)) same
          (walk_goes_on w.files (listed_file w) n entry.0 found shown entry.1 entry.2 so_far),
    )

-- a descriptor more
pub open_file_low : (w : World) (n fd : ℕ) (open_file : OpenFile) → IsSound w → open_file_from w n ≡ Some (fd, open_file) → fd < 1024
open_file_low w n fd open_file sound is =
    let held = some_of (fin.get w.open_files fd) (walk_finds w.open_files (λ held. held) n (fd, open_file) is) in
    sound.within.low_open_files fd held.0 held.1

pub same_map : {A : Type 0} (xs : List A) → map (λ x. x) xs ≡ xs
same_map [] = refl
same_map (x ∷ xs) = ap (λ rest. x ∷ rest) (same_map xs)
