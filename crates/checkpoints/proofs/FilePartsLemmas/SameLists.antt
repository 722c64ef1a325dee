-- Files that are made of lists have these lists.
use Rattle.std.proofs.Common.{◌≡◌, ℕ, ◌+◌, ◌<◌, true, false, cond, eqb, eqb-true, eq-eqb, T, List, [], ◌∷◌, ◌++◌, length, map, take, drop, get_or, Option, Some, None, is_some, refl, sym, ap, subst, ◌∙◌, arith}
use Rattle.std.specs.Prelude.{All}
use Rattle.std.specs.List.{IsDistinct}
use Rattle.std.specs.Ordering.{nat_cmp, eq_by_cmp, is_eq}
use Rattle.std.specs.Cmp.{nat_cmp_total, eq_by_cmp_equiv, tied_itself}
use Rattle.std.specs.Cmp.Lexicographic.{nat_list_cmp_total}
use Rattle.std.specs.FinMap as fin
use Rattle.std.specs.FinMap.Entries.{below_all}
use Rattle.std.proofs.lemmas.Bool.{false≢true}
use Rattle.std.proofs.lemmas.Option.{same_Some}
use Rattle.std.proofs.lemmas.List.Elements.{All-head, All-tail}
use Rattle.mem_files.specs.Names.{bytes_cmp}
use Rattle.mem_files.specs.World.{is_named}
use Rattle.mem_files.specs.Lists.{ListedFile, FileLists, named, with_name, numbered_contents, name_of_file, listed_file, lists_of, world_of, AreOrdered, AreInRange}
use Rattle.mem_files.proofs.ListRules.{entries_risen, name_held, one_name}
use Rattle.mem_files.proofs.ListWorlds.{at_index, later}
use Rattle.mem_files.proofs.Maps.{any_at, both, find_low, head_above, key_of_any, rest_above}
use Rattle.mem_files.proofs.Shown.{name-none, name-some}

abbrev Once : List ListedFile → Type 0
Once files = IsDistinct (eq_by_cmp bytes_cmp) (map (λ e. e.0) (named files))

-- a name is found at its file
found_at : (xs ys : List ListedFile) (f : ListedFile) (name : List ℕ) → f.name ≡ Some name → Once (xs ++ f ∷ ys) → fin.find bytes_cmp name (named (xs ++ f ∷ ys)) ≡ Some f.number
unfolding IsDistinct
found_at [] ys f name is once =
    ap (λ o. fin.find bytes_cmp name (with_name o f.number (named ys))) is
    ∙ ap (λ r. cond (is_eq r) (Some f.number) (fin.find bytes_cmp name (named ys))) (tied_itself nat_list_cmp_total name)
found_at (x ∷ xs) ys f name is once = at x.name once (found_at xs ys f name is)
  where
    at : (o : Option (List ℕ)) → IsDistinct (eq_by_cmp bytes_cmp) (map (λ e. e.0) (with_name o x.number (named (xs ++ f ∷ ys))))
        → (IsDistinct (eq_by_cmp bytes_cmp) (map (λ e. e.0) (named (xs ++ f ∷ ys))) → fin.find bytes_cmp name (named (xs ++ f ∷ ys)) ≡ Some f.number) → fin.find bytes_cmp name (with_name o x.number (named (xs ++ f ∷ ys))) ≡ Some f.number
    at None once next = next once
    at (Some n) once next =
        ap (λ b. cond b (Some x.number) (fin.find bytes_cmp name (named (xs ++ f ∷ ys)))) ((eq_by_cmp_equiv nat_list_cmp_total).symm name n ∙ later (λ y. eq_by_cmp bytes_cmp n y ≡ false) xs ys f name is once.0)
        ∙ next once.1

under : (a : ℕ) (xs ys : List ListedFile) (f : ListedFile) → T (below_all nat_cmp a (numbered_contents (xs ++ f ∷ ys))) → a < f.number
under a [] ys f below = head_above a (f.number, f.content) (numbered_contents ys) below
under a (x ∷ xs) ys f below = under a xs ys f (rest_above a (x.number, x.content) (numbered_contents (xs ++ f ∷ ys)) below)

-- the number of a file without a name has none
nameless : (xs ys : List ListedFile) (f : ListedFile) → T (fin.is_sorted nat_cmp (numbered_contents (xs ++ f ∷ ys))) → f.name ≡ None → (name : List ℕ) → fin.find bytes_cmp name (named (xs ++ f ∷ ys)) ≡ Some f.number → ⊥
nameless [] ys f sorted none name found =
    let parts = both (below_all nat_cmp f.number (numbered_contents ys)) (fin.is_sorted nat_cmp (numbered_contents ys)) sorted in
    let after : fin.find bytes_cmp name (named ys) ≡ Some f.number = sym (ap (λ o. fin.find bytes_cmp name (with_name o f.number (named ys))) none) ∙ found in
    false≢true (sym (ap is_some (find_low f.number f.number (numbered_contents ys) (omega arith) parts.0)) ∙ name_held ys name f.number after)
nameless (x ∷ xs) ys f sorted none name found = at x.name found (nameless xs ys f parts.1 none name)
  where
    parts : T (below_all nat_cmp x.number (numbered_contents (xs ++ f ∷ ys))) × T (fin.is_sorted nat_cmp (numbered_contents (xs ++ f ∷ ys)))
    parts = both (below_all nat_cmp x.number (numbered_contents (xs ++ f ∷ ys))) (fin.is_sorted nat_cmp (numbered_contents (xs ++ f ∷ ys))) sorted

    apart : x.number ≡ f.number → ⊥
    apart same = let less = under x.number xs ys f parts.0 in absurd (omega arith)

    at : (o : Option (List ℕ)) → fin.find bytes_cmp name (with_name o x.number (named (xs ++ f ∷ ys))) ≡ Some f.number → (fin.find bytes_cmp name (named (xs ++ f ∷ ys)) ≡ Some f.number → ⊥) → ⊥
    at None found next = next found
    at (Some n) found next = elim (eq_by_cmp bytes_cmp name n) as (λ b. cond b (Some x.number) (fin.find bytes_cmp name (named (xs ++ f ∷ ys))) ≡ Some f.number → ⊥) [
      | true ↦ λ here. apart (same_Some x.number f.number here)
      | false ↦ λ after. next after
    ] found

module _ (lists : FileLists) (order : AreOrdered lists) (range : AreInRange lists) where
  sorted_files : T (fin.is_sorted nat_cmp (numbered_contents lists.files))
  sorted_files = subst T (sym order.files_rise) tt

  looked : (name : List ℕ) → fin.get (world_of lists).names name ≡ fin.find bytes_cmp name (named lists.files)
  looked name = fin.get-from_entries nat_list_cmp_total (named lists.files) name

  name_at : (k : ℕ) (d : ListedFile) → k < length lists.files → (o : Option (List ℕ)) → (get_or lists.files k d).name ≡ o → name_of_file (world_of lists) (get_or lists.files k d).number ≡ o
  name_at k d inside (Some name) is =
      let f : ListedFile = get_or lists.files k d in
      let whole = at_index lists.files k d inside in
      let found : fin.find bytes_cmp name (named lists.files) ≡ Some f.number =
      subst (λ files. fin.find bytes_cmp name (named files) ≡ Some f.number) whole (found_at (take k lists.files) (drop (k + 1) lists.files) f name is (subst Once (sym whole) range.distinct)) in
      name-some (world_of lists) f.number name (any_at nat_list_cmp_total (λ held. eqb held f.number) (world_of lists).names name f.number (looked name ∙ found) (eq-eqb f.number f.number refl))
      (λ other held. one_name lists.files sorted_files other name f.number (sym (looked other) ∙ held) found)
  name_at k d inside None is =
      let f : ListedFile = get_or lists.files k d in
      let whole = at_index lists.files k d inside in
      name-none (world_of lists) f.number (elim (is_named (world_of lists) f.number) as (λ b. is_named (world_of lists) f.number ≡ b → b ≡ false) [
        | true ↦ λ held.
            let key = key_of_any nat_list_cmp_total (λ held. eqb held f.number) (world_of lists).names held in
            let found : fin.find bytes_cmp key.0 (named lists.files) ≡ Some f.number = sym (looked key.0) ∙ key.2 ∙ ap (λ n. Some n) (eqb-true key.1 f.number key.3) in
            absurd (nameless (take k lists.files) (drop (k + 1) lists.files) f (subst (λ files. T (fin.is_sorted nat_cmp (numbered_contents files))) (sym whole) sorted_files) is key.0
            (subst (λ files. fin.find bytes_cmp key.0 (named files) ≡ Some f.number) (sym whole) found))
        | false ↦ λ _. refl
      ] refl)

  shown_again : (files : List ListedFile) → All (λ f. name_of_file (world_of lists) f.number ≡ f.name) files → map (listed_file (world_of lists)) (numbered_contents files) ≡ files
  shown_again [] all = refl
  shown_again (f ∷ files) all =
      let name = All-head (λ f. name_of_file (world_of lists) f.number ≡ f.name) f files all in
      let rest = shown_again files (All-tail (λ f. name_of_file (world_of lists) f.number ≡ f.name) f files all) in
      λ i. record { number = f.number; name = name i; content = f.content } ∷ rest i

  two : (streams : List (List ℕ)) → length streams ≡ 2 → get_or streams 0 [] ∷ get_or streams 1 [] ∷ [] ≡ streams
  two [] h = absurd (omega arith)
  two (a ∷ []) h = absurd (omega arith)
  two (a ∷ (b ∷ [])) h = refl
  two (a ∷ (b ∷ (c ∷ more))) h = absurd (omega arith)

  pub same_lists : lists_of (world_of lists) ≡ lists
  same_lists =
      let files = ap (map (listed_file (world_of lists))) (entries_risen nat_cmp_total fin.nat_cmp-IsAntisymmetric (numbered_contents lists.files) order.files_rise)
      ∙ shown_again lists.files (λ k d inside. name_at k d inside (get_or lists.files k d).name refl) in
      let open_files = entries_risen nat_cmp_total fin.nat_cmp-IsAntisymmetric lists.open_files order.open_files_rise in
      let streams = two lists.streams order.two_streams in
      λ i. record { files = files i; open_files = open_files i; streams = streams i }
