-- Names that stay distinct as tables are added.
use Rattle.std.proofs.Common.{◌≡◌, ℕ, Bool, true, false, List, [], ◌∷◌, ◌++◌, map, refl, sym, ap, ◌∙◌, append_assoc}
use Rattle.std.specs.Prelude.{bytes_eq, ◌||◌, not}
use Rattle.std.specs.List.{AllByRecursion, IsDistinct, list_any}
use Rattle.std.proofs.lemmas.List.{map_push, append-nil}
use Rattle.std.proofs.lemmas.List.Folds.{list_any-append}
use Rattle.recipe.specs.declared.parts.Input.{Input}
use Rattle.recipe.specs.declared.parts.Source.{Source}
use Rattle.recipe.specs.declared.parts.Stage.{Stage}
use Rattle.recipe.specs.Tables.{is_taken}

pub not_false : (b : Bool) → not b ≡ true → b ≡ false
not_false true e = absurd cc
not_false false e = refl

neither : (a b : Bool) → (a || b) ≡ false → (a ≡ false) × (b ≡ false)
neither true b e = absurd cc
neither false b e = (refl, e)

all_push : (x : List ℕ) (xs : List (List ℕ)) (y : List ℕ) → AllByRecursion (λ z. bytes_eq x z ≡ false) xs → bytes_eq x y ≡ false
    → AllByRecursion (λ z. bytes_eq x z ≡ false) (xs ++ y ∷ [])
all_push x [] y all one = (one, tt)
all_push x (z ∷ zs) y all one = (all.0, all_push x zs y all.1 one)

pub distinct_push : (xs : List (List ℕ)) (y : List ℕ) → IsDistinct bytes_eq xs → list_any (λ x. bytes_eq x y) xs ≡ false → IsDistinct bytes_eq (xs ++ y ∷ [])
unfolding IsDistinct
distinct_push [] y all isnt = (tt, tt)
distinct_push (x ∷ xs) y all isnt =
    let n = neither (bytes_eq x y) (list_any (λ x. bytes_eq x y) xs) isnt in
    (all_push x xs y all.0 n.0, distinct_push xs y all.1 n.1)

pub any_map : {A : Type 0} (name : A → List ℕ) (y : List ℕ) (xs : List A) → list_any (λ x. bytes_eq x y) (map name xs) ≡ list_any (λ x. bytes_eq (name x) y) xs
any_map name y [] = refl
any_map name y (x ∷ xs) = ap (λ b. bytes_eq (name x) y || b) (any_map name y xs)

-- ---- the names of all tables so far

abbrev pub names_of : List Input → List Source → List Stage → List (List ℕ)
names_of inputs sources stages = map (λ input. input.name) inputs ++ map (λ source. source.name) sources ++ map (λ stage. stage.name) stages

taken_names : (inputs : List Input) (sources : List Source) (stages : List Stage) (name : List ℕ)
    → list_any (λ x. bytes_eq x name) (names_of inputs sources stages) ≡ is_taken inputs sources stages name
unfolding is_taken
taken_names inputs sources stages name =
    let p : List ℕ → Bool = λ x. bytes_eq x name in
    let a : List (List ℕ) = map (λ (input : Input). input.name) inputs in
    let b : List (List ℕ) = map (λ (source : Source). source.name) sources in
    let d : List (List ℕ) = map (λ (stage : Stage). stage.name) stages in
    rw (
      list_any-append p (a ++ b) d,
      list_any-append p a b,
      any_map (λ (input : Input). input.name) name inputs,
      any_map (λ (source : Source). source.name) name sources,
      any_map (λ (stage : Stage). stage.name) name stages,
    ) refl

new_among : (inputs : List Input) (sources : List Source) (stages : List Stage) (name : List ℕ) (more : List (List ℕ))
    → IsDistinct bytes_eq (names_of inputs sources stages) → not (is_taken inputs sources stages name) ≡ true → more ≡ names_of inputs sources stages ++ name ∷ []
    → IsDistinct bytes_eq more
new_among inputs sources stages name more distinct isnt is =
    rw is (distinct_push (names_of inputs sources stages) name distinct (taken_names inputs sources stages name ∙ not_false _ isnt))

pub input_added : (before : List Input) (input : Input) → IsDistinct bytes_eq (names_of before [] []) → not (is_taken before [] [] input.name) ≡ true
    → IsDistinct bytes_eq (names_of (before ++ input ∷ []) [] [])
input_added before input distinct isnt =
    let name : Input → List ℕ = λ input. input.name in
    new_among before [] [] input.name (names_of (before ++ input ∷ []) [] []) distinct isnt
    (append-nil (map name (before ++ input ∷ []) ++ []) ∙ append-nil (map name (before ++ input ∷ [])) ∙ map_push name before input
    ∙ ap (λ names. names ++ input.name ∷ []) (sym (append-nil (map name before ++ []) ∙ append-nil (map name before))))

pub source_added : (inputs : List Input) (before : List Source) (source : Source) → IsDistinct bytes_eq (names_of inputs before []) → not (is_taken inputs before [] source.name) ≡ true
    → IsDistinct bytes_eq (names_of inputs (before ++ source ∷ []) [])
source_added inputs before source distinct isnt =
    let first : List (List ℕ) = map (λ (input : Input). input.name) inputs in
    let name : Source → List ℕ = λ source. source.name in
    new_among inputs before [] source.name (names_of inputs (before ++ source ∷ []) []) distinct isnt
    (append-nil (first ++ map name (before ++ source ∷ [])) ∙ ap (λ names. first ++ names) (map_push name before source) ∙ sym (append_assoc first (map name before) (source.name ∷ []))
    ∙ ap (λ names. names ++ source.name ∷ []) (sym (append-nil (first ++ map name before))))

pub stage_added : (inputs : List Input) (sources : List Source) (before : List Stage) (stage : Stage) → IsDistinct bytes_eq (names_of inputs sources before)
    → not (is_taken inputs sources before stage.name) ≡ true → IsDistinct bytes_eq (names_of inputs sources (before ++ stage ∷ []))
stage_added inputs sources before stage distinct isnt =
    let first : List (List ℕ) = map (λ (input : Input). input.name) inputs ++ map (λ (source : Source). source.name) sources in
    let name : Stage → List ℕ = λ stage. stage.name in
    new_among inputs sources before stage.name (names_of inputs sources (before ++ stage ∷ [])) distinct isnt
    (ap (λ names. first ++ names) (map_push name before stage) ∙ sym (append_assoc first (map name before) (stage.name ∷ [])))
