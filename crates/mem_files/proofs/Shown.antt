-- What is shown of files and descriptors: the least number from another on, and the name of a file.
use Rattle.std.proofs.Common.{◌≡◌, ℕ, ◌<◌, ◌≤◌, Bool, true, false, cond, ◌||◌, T, eqb, eqb-true, nat_le, List, [], ◌∷◌, length, map, find, get_or, Option, Some, None, is_some, option_map, inl, inr, refl, sym, ap, subst, ◌∙◌, arith}
use Rattle.std.specs.Prelude.{All}
use Rattle.std.specs.List.{list_any}
use Rattle.std.specs.Ordering.{nat_cmp}
use Rattle.std.specs.FinMap as fin
use Rattle.std.specs.FinMap.Entries.{below_all}
use Rattle.std.proofs.lemmas.Bool.{cases_lt, false≢true}
use Rattle.std.proofs.lemmas.Bool.Decides.{nat_tests}
use Rattle.std.proofs.lemmas.List.{get_or_past}
use Rattle.std.proofs.lemmas.List.Elements.{All-head, All-tail}
use Rattle.std.proofs.lemmas.Option.{none-some, same_Some}
use Rattle.std.specs.Option.{option_copied}
use Rattle.mem_files.specs.declared.open_file.OpenFile.{OpenFile}
use Rattle.mem_files.specs.declared.stored.Stored.{Stored}
use Rattle.mem_files.specs.declared.view.FileView.{FileView}
use Rattle.mem_files.specs.Lists.{listed, first_from, name_of_file, listed_file, file_from, open_file_from}
use Rattle.mem_files.specs.World.{World, is_named}
use Rattle.mem_files.specs.Inside.Cells.{AreEmpty, IsFirstFull}
use Rattle.mem_files.specs.Inside.Stored.{content_in, name_in}
use Rattle.mem_files.specs.Inside.FileTable.{Parts, world_of, IsConsistent}
use Rattle.mem_files.proofs.Changes.{file-is, open_file-is, is_named-is}
use Rattle.mem_files.proofs.Maps.{both, find_apart, find_here, find_low}
use Rattle.mem_files.proofs.Leftovers.{all_names}

-- the first entry from a number on is the one at the least key
least_in : {X : Type 0} (from at : ℕ) (x : X) (es : List (ℕ × X)) → T (fin.is_sorted nat_cmp es) → fin.find nat_cmp at es ≡ Some x → from ≤ at
    → ((q : ℕ) → from ≤ q → q < at → fin.find nat_cmp q es ≡ None) → find (λ e. nat_le from e.0) es ≡ Some (at, x)
least_in from at x [] sorted is low none = absurd (none-some x is)
least_in from at x (e ∷ es) sorted is low none =
    let parts = both (below_all nat_cmp e.0 es) (fin.is_sorted nat_cmp es) sorted in
    elim (nat_le from e.0) as (λ b. nat_le from e.0 ≡ b → cond b (Some e) (find (λ e. nat_le from e.0) es) ≡ Some (at, x)) [
      | true ↦ λ t. let reached : from ≤ e.0 = (grind (arith, nat_tests)) in
          elim (cases_lt e.0 at) as (λ _. Some e ≡ Some (at, x)) [
            | inl h ↦ absurd (none-some e.1 (sym (none e.0 reached h) ∙ find_here e.0 e es refl))
            | inr h ↦ elim (cases_lt at e.0) as (λ _. Some e ≡ Some (at, x)) [
              | inl g ↦ absurd (none-some x (sym (find_apart at e es (omega arith) ∙ find_low at e.0 es (omega arith) parts.0) ∙ is))
              | inr g ↦ let same : at ≡ e.0 = omega arith in λ i. Some (sym same i, same_Some e.1 x (sym (find_here at e es same) ∙ is) i)
            ]
          ]
      | false ↦ λ f. let under : e.0 < from = (grind (arith, nat_tests)) in
          least_in from at x es parts.1 (sym (find_apart at e es (omega arith)) ∙ is) low (λ q a b. sym (find_apart q e es (omega arith)) ∙ none q a b)
    ] refl

none_in : {X : Type 0} (from : ℕ) (es : List (ℕ × X)) → T (fin.is_sorted nat_cmp es) → ((q : ℕ) → from ≤ q → fin.find nat_cmp q es ≡ None) → find (λ e. nat_le from e.0) es ≡ None
none_in from [] sorted none = refl
none_in from (e ∷ es) sorted none =
    let parts = both (below_all nat_cmp e.0 es) (fin.is_sorted nat_cmp es) sorted in
    elim (nat_le from e.0) as (λ b. nat_le from e.0 ≡ b → cond b (Some e) (find (λ e. nat_le from e.0) es) ≡ None) [
      | true ↦ λ t. let reached : from ≤ e.0 = (grind (arith, nat_tests)) in absurd (none-some e.1 (sym (none e.0 reached) ∙ find_here e.0 e es refl))
      | false ↦ λ f. let under : e.0 < from = (grind (arith, nat_tests)) in none_in from es parts.1 (λ q a. sym (find_apart q e es (omega arith)) ∙ none q a)
    ] refl

pub least_from : {X : Type 0} (m : fin.FinMap nat_cmp X) (from at : ℕ) (x : X) → fin.get m at ≡ Some x → from ≤ at → ((q : ℕ) → from ≤ q → q < at → fin.get m q ≡ None) → first_from m from ≡ Some (at, x)
least_from m from at x is low none =
    least_in from at x (fin.entries m) (fin.entries_sorted m) (sym (fin.get-entries m at) ∙ is) low (λ q a b. sym (fin.get-entries m q) ∙ none q a b)

pub none_from : {X : Type 0} (m : fin.FinMap nat_cmp X) (from : ℕ) → ((q : ℕ) → from ≤ q → fin.get m q ≡ None) → first_from m from ≡ None
none_from m from none = none_in from (fin.entries m) (fin.entries_sorted m) (λ q a. sym (fin.get-entries m q) ∙ none q a)

-- cells that are empty up to the end are empty past it too
empty_past : {X : Type 0} (cells : List (Option X)) (from : ℕ) → AreEmpty cells from (length cells) → (q : ℕ) → from ≤ q → get_or cells q None ≡ None
empty_past cells from none q low = elim (cases_lt q (length cells)) as (λ _. get_or cells q None ≡ None) [
  | inl h ↦ none q low h
  | inr h ↦ get_or_past cells q None h
]

-- an entry that is found passes the test, and what holds of all entries holds of it
pub found_entry : {A : Type 0} (P : A → Type 0) (test : A → Bool) (es : List A) (e : A) → All P es → find test es ≡ Some e → P e × (test e ≡ true)
found_entry P test [] e all is = absurd (none-some e is)
found_entry P test (x ∷ es) e all is =
    elim (test x) as (λ b. test x ≡ b → cond b (Some x) (find test es) ≡ Some e → P e × (test e ≡ true)) [
      | true ↦ λ t here. let same = same_Some x e here in (subst P same (All-head P x es all), ap test (sym same) ∙ t)
      | false ↦ λ _ later. found_entry P test es e (All-tail P x es all) later
    ] refl is

pub is_some-found : (number : ℕ) (es : List (List ℕ × ℕ)) → is_some (find (λ e. eqb e.1 number) es) ≡ list_any (λ held. eqb held number) (map (λ e. e.1) es)
is_some-found number [] = refl
is_some-found number (e ∷ es) = elim (eqb e.1 number) as (λ b. is_some (cond b (Some e) (find (λ e. eqb e.1 number) es)) ≡ (b || list_any (λ held. eqb held number) (map (λ e. e.1) es))) [
  | true ↦ refl
  | false ↦ is_some-found number es
]

-- the name of a file that has none, and of one that has one
pub name-none : (w : World) (number : ℕ) → is_named w number ≡ false → name_of_file w number ≡ None
name-none w number none = at (find (λ e. eqb e.1 number) (fin.entries w.names)) (is_some-found number (fin.entries w.names) ∙ none)
  where
    at : (o : Option (List ℕ × ℕ)) → is_some o ≡ false → option_map (λ e. e.0) o ≡ None
    at None h = refl
    at (Some e) h = absurd (false≢true (sym h))

pub name-some : (w : World) (number : ℕ) (name : List ℕ) → is_named w number ≡ true → ((other : List ℕ) → fin.get w.names other ≡ Some number → other ≡ name) → name_of_file w number ≡ Some name
name-some w number name held once = at (find (λ e. eqb e.1 number) (fin.entries w.names)) refl (is_some-found number (fin.entries w.names) ∙ held)
  where
    P : List ℕ × ℕ → Type 0
    P e = fin.get w.names e.0 ≡ Some e.1

    at : (o : Option (List ℕ × ℕ)) → find (λ e. eqb e.1 number) (fin.entries w.names) ≡ o → is_some o ≡ true → option_map (λ e. e.0) o ≡ Some name
    at None was h = absurd (false≢true h)
    at (Some e) was h =
        let found = found_entry P (λ e. eqb e.1 number) (fin.entries w.names) e (all_names P w (λ other n is. is)) was in
        ap (λ n. Some n) (once e.0 (found.0 ∙ ap (λ n. Some n) (eqb-true e.1 number found.1)))

module _ (p : Parts) (w : World) (is : world_of p ≡ w) (ok : IsConsistent p) where
  name_of-is : (number : ℕ) → name_of_file w number ≡ name_in (get_or p.files number None)
  name_of-is number = elim (name_in (get_or p.files number None)) as (λ o. name_in (get_or p.files number None) ≡ o → name_of_file w number ≡ o) [
    | None ↦ λ none. name-none w number (is_named-is p w is ok number ∙ ap is_some none)
    | Some name ↦ λ e. name-some w number name (is_named-is p w is ok number ∙ ap is_some e)
        (λ other held. same_Some other name (sym (ok.found other number (ap (λ (v : World). fin.get v.names other) is ∙ held)) ∙ e))
  ] refl

  module _ (cells : List (Option OpenFile)) (shown : cells ≡ p.open_files) where
    pub open_file_from-some : (fd at : ℕ) (open_file : OpenFile) → IsFirstFull cells fd at open_file → Some (at, open_file) ≡ open_file_from w fd
    open_file_from-some fd at open_file first = let held = rw shown at first in
        sym (least_from w.open_files fd at open_file (open_file-is p w is ok at ∙ held.1) held.0 (λ q low high. open_file-is p w is ok q ∙ held.2 q low high))

    pub open_file_from-none : (fd : ℕ) → AreEmpty cells fd (length cells) → None ≡ open_file_from w fd
    open_file_from-none fd empty = let none = rw shown at empty in
        sym (none_from w.open_files fd (λ q low. open_file-is p w is ok q ∙ empty_past p.open_files fd none q low))

  module _ (cells : List (Option Stored)) (shown : cells ≡ p.files) where
    pub file_from-some : (number at : ℕ) (file : Stored) (view : FileView) → IsFirstFull cells number at file
        → view.number ≡ at → option_copied view.name ≡ name_in (Some file) → Some view.content.now ≡ content_in (Some file) → Some (listed view) ≡ file_from w number
    file_from-some number at file view first numbered titled filled =
        let held = rw shown at first in
        let named : name_of_file w at ≡ option_copied view.name = name_of-is at ∙ ap name_in held.1 ∙ sym titled in
        let from : first_from w.files number ≡ Some (at, view.content.now) =
        least_from w.files number at view.content.now (file-is p w is ok at ∙ ap content_in held.1 ∙ sym filled) held.0 (λ q low high. file-is p w is ok q ∙ ap content_in (held.2 q low high)) in
        sym (ap (option_map (listed_file w)) from ∙ (λ i. Some (record { number = sym numbered i; name = named i; content = view.content.now })))

    pub file_from-none : (number : ℕ) → AreEmpty cells number (length cells) → None ≡ file_from w number
    file_from-none number empty = let none = rw shown at empty in
        sym (ap (option_map (listed_file w)) (none_from w.files number (λ q low. file-is p w is ok q ∙ ap content_in (empty_past p.files number none q low))))
