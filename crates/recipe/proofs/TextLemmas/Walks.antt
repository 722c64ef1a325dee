-- The walks, one element on.
use Rattle.std.proofs.Common.{◌≡◌, ℕ, ◌+◌, ◌<◌, ◌≤◌, List, [], ◌∷◌, ◌++◌, length, map, drop, get_or, Result, Ok, refl, sym, ap, subst, ◌∙◌, arith, length-append}
use Rattle.std.proofs.lemmas.List.{drop_more, drop_all}
use Rattle.ddc_base.specs.Results.{◌>>=◌}
use Rattle.recipe.specs.declared.text.refusal.RecipeRefusal.{RecipeRefusal}
use Rattle.recipe.specs.declared.text.refusal.RecipeRefusal.TheVariants.{NotToml, Missing, Unknown, BadName, DoubleName, NotMadeYet, BadPath, BadNumber, TooMany, OutOfMemory}
use Rattle.recipe.specs.Text.Reading.{IsRefused, gathered, each_passes}

fails_bind : {A B : Type 0} (e : RecipeRefusal) (r : Result A RecipeRefusal) (f : A → Result B RecipeRefusal) → IsRefused e r → IsRefused e (r >>= f)
fails_bind OutOfMemory r f h = tt
fails_bind NotToml r f h = rw h refl
fails_bind (Missing p k) r f h = rw h refl
fails_bind (Unknown p) r f h = rw h refl
fails_bind (BadName p k) r f h = rw h refl
fails_bind (DoubleName p k) r f h = rw h refl
fails_bind (NotMadeYet p k) r f h = rw h refl
fails_bind (BadPath p k) r f h = rw h refl
fails_bind (BadNumber p k) r f h = rw h refl
fails_bind (TooMany p k) r f h = rw h refl

-- the element at an index, and those after it
next_of : {X C : Type 0} (view : X → C) (xs : List X) (i : ℕ) (x : X) → i < length xs → x ≡ get_or xs i x → map view (drop i xs) ≡ view x ∷ map view (drop (i + 1) xs)
next_of view xs i x within is = ap (map view) (drop_more xs i x within) ∙ ap (λ y. view y ∷ map view (drop (i + 1) xs)) (sym is)

-- ---- elements that are gathered

-- found is what the first i elements gave
pub record Gathers {X B C : Type 0} (view : X → C) (next : List B → C → Result B RecipeRefusal) (xs : List X) (i : ℕ) (found : List B) : Type 0 where
  pub so_far : gathered next found (map view (drop i xs)) ≡ gathered next [] (map view xs)
  pub few : length found ≤ i

pub gathers_none : {X B C : Type 0} (view : X → C) (next : List B → C → Result B RecipeRefusal) (xs : List X) → Gathers view next xs 0 []
gathers_none view next xs = record { so_far = refl; few = omega arith }

gathered_one : {B C : Type 0} (next : List B → C → Result B RecipeRefusal) (found : List B) (x : C) (xs : List C) (y : B) → next found x ≡ Ok y → gathered next found (x ∷ xs) ≡ gathered next (found ++ y ∷ []) xs
unfolding gathered
gathered_one next found x xs y is = rw is refl

gathered_fails : {B C : Type 0} (e : RecipeRefusal) (next : List B → C → Result B RecipeRefusal) (found : List B) (x : C) (xs : List C) → IsRefused e (next found x) → IsRefused e (gathered next found (x ∷ xs))
unfolding gathered
gathered_fails e next found x xs h = fails_bind e (next found x) (λ y. gathered next (found ++ y ∷ []) xs) h

gathered_end : {B C : Type 0} (next : List B → C → Result B RecipeRefusal) (found : List B) → gathered {A = C} next found [] ≡ Ok found
unfolding gathered
gathered_end next found = refl

pub gathers_more : {X B C : Type 0} (view : X → C) (next : List B → C → Result B RecipeRefusal) (xs : List X) (i : ℕ) (x : X) (found more : List B) (y : B)
    → i < length xs → x ≡ get_or xs i x → Gathers view next xs i found → next found (view x) ≡ Ok y → more ≡ found ++ y ∷ [] → Gathers view next xs (i + 1) more
gathers_more view next xs i x found more y within is gathers read grown = record {
  so_far = ap (λ ys. gathered next ys (map view (drop (i + 1) xs))) grown ∙ sym (gathered_one next found (view x) (map view (drop (i + 1) xs)) y read)
      ∙ ap (gathered next found) (sym (next_of view xs i x within is)) ∙ gathers.so_far;
  few = omega (arith, ap length grown, length-append found (y ∷ []), gathers.few);
}

pub gathers_fails : {X B C : Type 0} (e : RecipeRefusal) (view : X → C) (next : List B → C → Result B RecipeRefusal) (xs : List X) (i : ℕ) (x : X) (found : List B)
    → i < length xs → x ≡ get_or xs i x → Gathers view next xs i found → IsRefused e (next found (view x)) → IsRefused e (gathered next [] (map view xs))
gathers_fails e view next xs i x found within is gathers failed =
    let there = ap (gathered next found) (sym (next_of view xs i x within is)) ∙ gathers.so_far in
    subst (λ r. IsRefused e r) there (gathered_fails e next found (view x) (map view (drop (i + 1) xs)) failed)

pub gathers_all : {X B C : Type 0} (view : X → C) (next : List B → C → Result B RecipeRefusal) (xs : List X) (i : ℕ) (found : List B)
    → length xs ≤ i → Gathers view next xs i found → gathered next [] (map view xs) ≡ Ok found
gathers_all view next xs i found past gathers =
    sym gathers.so_far ∙ ap (λ ys. gathered next found (map view ys)) (drop_all i xs past) ∙ gathered_end next found

-- ---- elements that are tested

pub record Passes {X : Type 0} (test : ℕ → X → Result (Unit {0}) RecipeRefusal) (xs : List X) (i number : ℕ) : Type 0 where
  pub so_far : each_passes test number (drop i xs) ≡ each_passes test 1 xs
  pub counted : number ≡ i + 1

pub passes_none : {X : Type 0} (test : ℕ → X → Result (Unit {0}) RecipeRefusal) (xs : List X) → Passes test xs 0 1
passes_none test xs = record { so_far = refl; counted = refl }

tested_one : {X : Type 0} (test : ℕ → X → Result (Unit {0}) RecipeRefusal) (number : ℕ) (x : X) (xs : List X) → test number x ≡ Ok tt → each_passes test number (x ∷ xs) ≡ each_passes test (number + 1) xs
unfolding each_passes
tested_one test number x xs is = rw is refl

tested_fails : {X : Type 0} (e : RecipeRefusal) (test : ℕ → X → Result (Unit {0}) RecipeRefusal) (number : ℕ) (x : X) (xs : List X) → IsRefused e (test number x) → IsRefused e (each_passes test number (x ∷ xs))
unfolding each_passes
tested_fails e test number x xs h = fails_bind e (test number x) (λ _. each_passes test (number + 1) xs) h

tested_end : {X : Type 0} (test : ℕ → X → Result (Unit {0}) RecipeRefusal) (number : ℕ) → each_passes test number [] ≡ Ok tt
unfolding each_passes
tested_end test number = refl

pub passes_more : {X : Type 0} (test : ℕ → X → Result (Unit {0}) RecipeRefusal) (xs : List X) (i number : ℕ) (x : X)
    → i < length xs → x ≡ get_or xs i x → Passes test xs i number → test number x ≡ Ok tt → Passes test xs (i + 1) (number + 1)
passes_more test xs i number x within is passes passed = record {
  so_far = sym (tested_one test number x (drop (i + 1) xs) passed) ∙ ap (each_passes test number) (sym (drop_more xs i x within ∙ ap (λ y. y ∷ drop (i + 1) xs) (sym is))) ∙ passes.so_far;
  counted = omega (arith, passes.counted);
}

pub passes_fails : {X : Type 0} (e : RecipeRefusal) (test : ℕ → X → Result (Unit {0}) RecipeRefusal) (xs : List X) (i number : ℕ) (x : X)
    → i < length xs → x ≡ get_or xs i x → Passes test xs i number → IsRefused e (test number x) → IsRefused e (each_passes test 1 xs)
passes_fails e test xs i number x within is passes failed =
    let there = ap (each_passes test number) (sym (drop_more xs i x within ∙ ap (λ y. y ∷ drop (i + 1) xs) (sym is))) ∙ passes.so_far in
    subst (λ r. IsRefused e r) there (tested_fails e test number x (drop (i + 1) xs) failed)

pub passes_all : {X : Type 0} (test : ℕ → X → Result (Unit {0}) RecipeRefusal) (xs : List X) (i number : ℕ) → length xs ≤ i → Passes test xs i number → each_passes test 1 xs ≡ Ok tt
passes_all test xs i number past passes = sym passes.so_far ∙ ap (each_passes test number) (drop_all i xs past) ∙ tested_end test number
