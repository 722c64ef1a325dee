-- The lists of a world stand for that world.
use Rattle.std.proofs.Common.{◌≡◌, ℕ, true, false, cond, eqb, eqb-true, eq-eqb, List, [], ◌∷◌, map, find, Option, Some, None, IsSome, is_some, option_map, refl, sym, ap, ◌∙◌}
use Rattle.std.specs.Prelude.{All, IfSome}
use Rattle.std.specs.Ordering.{nat_cmp, eq_by_cmp, is_eq}
use Rattle.std.specs.Cmp.{nat_cmp_total, tied_itself, unsigned_tied}
use Rattle.std.specs.Cmp.Lexicographic.{nat_list_cmp_total}
use Rattle.std.specs.FinMap as fin
use Rattle.std.proofs.lemmas.Bool.{false≢true}
use Rattle.std.proofs.lemmas.Option.{none-some, same_Some}
use Rattle.std.proofs.lemmas.List.Elements.{All-cons, All-nil}
use Rattle.mem_files.specs.Names.{bytes_cmp}
use Rattle.mem_files.specs.World.{World}
use Rattle.mem_files.specs.Sound.{IsSound}
use Rattle.mem_files.specs.Lists.{named, with_name, numbered_contents, name_of_file, listed_file, lists_of, world_of}
use Rattle.mem_files.proofs.Directory.{bytes_cmp-IsAntisymmetric, same_name_map}
use Rattle.mem_files.proofs.Entries.{some_of}
use Rattle.mem_files.proofs.Leftovers.{all_names}
use Rattle.mem_files.proofs.ListRules.{chosen_some, found_all}
use Rattle.mem_files.proofs.Maps.{any_at, same_nat_map}
use Rattle.mem_files.proofs.Shown.{found_entry, name-some}

pub contents_listed : (w : World) (es : List (ℕ × List ℕ)) → numbered_contents (map (listed_file w) es) ≡ es
contents_listed w [] = refl
contents_listed w (e ∷ es) = ap (λ rest. e ∷ rest) (contents_listed w es)

-- a map is that of its entries
pub from_its_entries : {X : Type 0} (m : fin.FinMap nat_cmp X) → fin.from_entries (fin.entries m) ≡ m
from_its_entries m = same_nat_map _ m (λ q. fin.get-from_entries nat_cmp_total (fin.entries m) q ∙ sym (fin.get-entries m q))

module _ (w : World) where
  pub right_name : (n : ℕ) (o : Option (List ℕ)) → name_of_file w n ≡ o → IfSome o (λ name. fin.get w.names name ≡ Some n)
  right_name n o is = at (find (λ e. eqb e.1 n) (fin.entries w.names)) refl o is
    where
      at : (e : Option (List ℕ × ℕ)) → find (λ e. eqb e.1 n) (fin.entries w.names) ≡ e → (o : Option (List ℕ)) → option_map (λ e. e.0) e ≡ o → IfSome o (λ name. fin.get w.names name ≡ Some n)
      at None was None is = tt
      at None was (Some name) is = absurd (none-some name is)
      at (Some e) was None is = absurd (none-some e.0 (sym is))
      at (Some e) was (Some name) is =
          let found = found_entry (λ e. fin.get w.names e.0 ≡ Some e.1) (λ e. eqb e.1 n) (fin.entries w.names) e (all_names (λ e. fin.get w.names e.0 ≡ Some e.1) w (λ name number held. held)) was in
          ap (fin.get w.names) (sym (same_Some e.0 name is)) ∙ found.0 ∙ ap (λ k. Some k) (eqb-true e.1 n found.1)

  pub names_right : (es : List (ℕ × List ℕ)) → All (λ e. fin.get w.names e.0 ≡ Some e.1) (named (map (listed_file w) es))
  names_right [] = All-nil (λ e. fin.get w.names e.0 ≡ Some e.1)
  names_right (e ∷ es) = at (name_of_file w e.0) (right_name e.0 (name_of_file w e.0) refl) (names_right es)
    where
      at : (o : Option (List ℕ)) → IfSome o (λ name. fin.get w.names name ≡ Some e.0) → All (λ e. fin.get w.names e.0 ≡ Some e.1) (named (map (listed_file w) es))
          → All (λ e. fin.get w.names e.0 ≡ Some e.1) (with_name o e.0 (named (map (listed_file w) es)))
      at None h rest = rest
      at (Some name) h rest = All-cons (λ e. fin.get w.names e.0 ≡ Some e.1) (name, e.0) (named (map (listed_file w) es)) h rest

  pub found_right : (name : List ℕ) (n : ℕ) → fin.find bytes_cmp name (named (map (listed_file w) (fin.entries w.files))) ≡ Some n → fin.get w.names name ≡ Some n
  found_right name n is = found_all bytes_cmp-IsAntisymmetric (λ e. fin.get w.names e.0 ≡ Some e.1) (named (map (listed_file w) (fin.entries w.files))) name n (names_right (fin.entries w.files)) is

  module _ (sound : IsSound w) where
    its_name : (name : List ℕ) (n : ℕ) → fin.get w.names name ≡ Some n → name_of_file w n ≡ Some name
    its_name name n held =
        name-some w n name (any_at nat_list_cmp_total (λ held. eqb held n) w.names name n held (eq-eqb n n refl)) (λ other also. sound.joined.named_once other name n also held)

    present : (name : List ℕ) (n : ℕ) → name_of_file w n ≡ Some name → (es : List (ℕ × List ℕ)) → IsSome (fin.find nat_cmp n es) → IsSome (fin.find bytes_cmp name (named (map (listed_file w) es)))
    present name n is [] held = absurd (false≢true held)
    present name n is (e ∷ es) held = elim (eq_by_cmp nat_cmp n e.0) as (λ b. eq_by_cmp nat_cmp n e.0 ≡ b → IsSome (cond b (Some e.1) (fin.find nat_cmp n es)) → IsSome (fin.find bytes_cmp name (with_name (name_of_file w e.0) e.0 (named (map (listed_file w) es))))) [
      | true ↦ λ tie _. first (name_of_file w e.0) (ap (name_of_file w) (sym (eqb-true n e.0 (sym (unsigned_tied n e.0) ∙ tie))) ∙ is)
      | false ↦ λ _ later. after (name_of_file w e.0) (present name n is es later)
    ] refl held
      where
        first : (o : Option (List ℕ)) → o ≡ Some name → IsSome (fin.find bytes_cmp name (with_name o e.0 (named (map (listed_file w) es))))
        first None same = absurd (none-some name same)
        first (Some other) same =
            ap (λ k. is_some (fin.find bytes_cmp k ((other, e.0) ∷ named (map (listed_file w) es)))) (sym (same_Some other name same))
            ∙ ap (λ r. is_some (cond (is_eq r) (Some e.0) (fin.find bytes_cmp other (named (map (listed_file w) es))))) (tied_itself nat_list_cmp_total other)

        after : (o : Option (List ℕ)) → IsSome (fin.find bytes_cmp name (named (map (listed_file w) es))) → IsSome (fin.find bytes_cmp name (with_name o e.0 (named (map (listed_file w) es))))
        after None h = h
        after (Some other) h = chosen_some (eq_by_cmp bytes_cmp name other) e.0 (fin.find bytes_cmp name (named (map (listed_file w) es))) h

    pub names_same : fin.from_entries (named (map (listed_file w) (fin.entries w.files))) ≡ w.names
    names_same = same_name_map _ w.names (λ name. fin.get-from_entries nat_list_cmp_total (named (map (listed_file w) (fin.entries w.files))) name ∙ at name (fin.get w.names name) refl)
      where
        none_of : (name : List ℕ) (o : Option ℕ) → fin.find bytes_cmp name (named (map (listed_file w) (fin.entries w.files))) ≡ o → fin.get w.names name ≡ None → o ≡ None
        none_of name None found none = refl
        none_of name (Some n) found none = absurd (none-some n (sym none ∙ found_right name n found))

        at : (name : List ℕ) (o : Option ℕ) → fin.get w.names name ≡ o → fin.find bytes_cmp name (named (map (listed_file w) (fin.entries w.files))) ≡ fin.get w.names name
        at name None none = none_of name (fin.find bytes_cmp name (named (map (listed_file w) (fin.entries w.files)))) refl none ∙ sym none
        at name (Some n) held =
            let there = some_of (fin.find bytes_cmp name (named (map (listed_file w) (fin.entries w.files))))
            (present name n (its_name name n held) (fin.entries w.files) (sym (ap is_some (fin.get-entries w.files n)) ∙ sound.joined.held name n held)) in
            there.1 ∙ sym (found_right name there.0 there.1)

    pub same_world : world_of (lists_of w) ≡ w
    same_world = λ i. record {
      names = names_same i;
      files = (ap (λ es. fin.from_entries {R = nat_cmp} es) (contents_listed w (fin.entries w.files)) ∙ from_its_entries w.files) i;
      open_files = from_its_entries w.open_files i;
      stream1 = w.stream1;
      stream2 = w.stream2;
    }
