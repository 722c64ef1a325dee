-- Tests of lists that are borrowed, and what the tests say.
use Rattle.std.proofs.Common.{◌≡◌, ℕ, ◌+◌, Bool, ◌&&◌, ◌||◌, cond, List, [], ◌∷◌, length, map, sum_by, Option, Some, None, is_some, refl, sym, ap, ◌∙◌, arith}
use Rattle.std.specs.Prelude.{count_by}
use Rattle.std.specs.List.{list_all, list_any}
use Rattle.std.specs.Option.{option_copied}
use Rattle.std.specs.Borrow.{Bor}
use Rattle.std.proofs.lemmas.List.Sums.{sum_by-cons}
use Rattle.mem_files.specs.declared.view.FileView.{FileView}
use Rattle.mem_files.specs.Lists.{listed, named, with_name}

pub any_map : {A B : Type 0} (p : B → Bool) (f : A → B) (xs : List A) → list_any p (map f xs) ≡ list_any (λ x. p (f x)) xs
any_map p f [] = refl
any_map p f (x ∷ xs) = ap (λ b. p (f x) || b) (any_map p f xs)

pub all_map : {A B : Type 0} (p : B → Bool) (f : A → B) (xs : List A) → list_all p (map f xs) ≡ list_all (λ x. p (f x)) xs
all_map p f [] = refl
all_map p f (x ∷ xs) = ap (λ b. p (f x) && b) (all_map p f xs)

pub sum_map : {A B : Type 0} (size : B → ℕ) (f : A → B) (xs : List A) → sum_by size (map f xs) ≡ sum_by (λ x. size (f x)) xs
sum_map size f [] = refl
sum_map size f (x ∷ xs) = sum_by-cons size (f x) (map f xs) ∙ ap (λ n. size (f x) + n) (sum_map size f xs) ∙ sym (sum_by-cons (λ x. size (f x)) x xs)

-- the files with names
pub names_count : (views : List FileView) → length (named (map listed views)) ≡ count_by (λ file. is_some file.name) views
names_count [] = refl
names_count (view ∷ views) = at view.name (names_count views) ∙ sym (sum_by-cons (λ (file : FileView). cond (is_some file.name) 1 0) view views)
  where
    zero_more : (n : ℕ) → n ≡ 0 + n
    zero_more n = omega arith

    at : (o : Option (Bor (List ℕ))) → length (named (map listed views)) ≡ count_by (λ file. is_some file.name) views
        → length (with_name (option_copied o) view.number (named (map listed views))) ≡ cond (is_some o) 1 0 + count_by (λ file. is_some file.name) views
    at None e = e ∙ zero_more (count_by (λ file. is_some file.name) views)
    at (Some name) e = omega (arith, e)
