-- What the names of a recipe stand for: names are distinct, so a stage's name is that of no input and of no earlier stage.
use Rattle.std.proofs.Common.{◌≡◌, ℕ, suc, ◌+◌, ◌<◌, ◌||◌, Bool, true, false, cond, not, Option, None, Some, List, [], ◌∷◌, ◌++◌, length, map, take, get_or, refl, sym, ap, ap₂, ◌∙◌, subst, arith, append_assoc, All}
use Rattle.std.specs.Prelude.{IsSome, bytes_eq, find, option_map, slice_get}
use Rattle.std.specs.List.{AllByRecursion, IsDistinct, list_any, position, position_or_len}
use Rattle.std.specs.Option.{option_or}
use Rattle.std.proofs.lemmas.Bool.{le-ltb, lt-ltb, or_from, or_parts}
use Rattle.std.proofs.lemmas.List.{length-append, map-append}
use Rattle.std.proofs.lemmas.List.Folds.{list_any-append}
use Rattle.std.proofs.lemmas.List.Quantifiers.{position-Some}
use Rattle.std.proofs.lemmas.Slice.Eq.{bytes_eq-Decides}
use Rattle.recipe.specs.declared.contents.RecipeContents.{RecipeContents}
use Rattle.recipe.specs.declared.parts.Content.TheVariants as content
use Rattle.recipe.specs.declared.parts.Input.{Input}
use Rattle.recipe.specs.declared.parts.Source.{Source}
use Rattle.recipe.specs.declared.parts.Stage.{Stage}
use Rattle.recipe.specs.Kept.{IsRecipe, IsStage, all_names}
use Rattle.recipe.specs.Lookups.{content_named, input_at, stage_at}
use Rattle.recipe.proofs.DistinctNames.{any_map}
use Rattle.wheeler.specs.AllContents.{stage_named}

-- ---- a list that is split at an element

pub take-prefix : {A : Type 0} (xs ys : List A) → take (length xs) (xs ++ ys) ≡ xs
take-prefix [] ys = refl
take-prefix (x ∷ xs) ys = ap (λ l. x ∷ l) (take-prefix xs ys)

pub get-split : {A : Type 0} (xs : List A) (x : A) (ys : List A) → slice_get (xs ++ x ∷ ys) (length xs) ≡ Some x
get-split [] x ys = refl
get-split (y ∷ xs) x ys = get-split xs x ys

module _ {A : Type 0} (p : A → Bool) where
  none-position : (xs : List A) → list_any p xs ≡ false → position_or_len p xs ≡ length xs
  none-position [] none = refl
  none-position (x ∷ xs) none = by_test (p x) none (none-position xs) where
    by_test : (b : Bool) → (b || list_any p xs) ≡ false → (list_any p xs ≡ false → position_or_len p xs ≡ length xs)
        → cond (not b) (1 + position_or_len p xs) 0 ≡ suc (length xs)
    by_test true none later = absurd cc
    by_test false none later = omega (arith, later none)

  pub no-position : (xs : List A) → list_any p xs ≡ false → position p xs ≡ None
  no-position xs none =
      let at = none-position xs none in
      ap (λ b. cond b (Some (position_or_len p xs)) None) (le-ltb (position_or_len p xs) (length xs) (omega (arith, at)))

  split-position : (xs : List A) (x : A) (ys : List A) → list_any p xs ≡ false → p x ≡ true → position_or_len p (xs ++ x ∷ ys) ≡ length xs
  split-position [] x ys none is = ap (λ b. cond (not b) (1 + position_or_len p ys) 0) is
  split-position (y ∷ xs) x ys none is = by_test (p y) none (λ n. split-position xs x ys n is) where
    by_test : (b : Bool) → (b || list_any p xs) ≡ false → (list_any p xs ≡ false → position_or_len p (xs ++ x ∷ ys) ≡ length xs)
        → cond (not b) (1 + position_or_len p (xs ++ x ∷ ys)) 0 ≡ suc (length xs)
    by_test true none later = absurd cc
    by_test false none later = omega (arith, later none)

  pub position-split : (xs : List A) (x : A) (ys : List A) → list_any p xs ≡ false → p x ≡ true → position p (xs ++ x ∷ ys) ≡ Some (length xs)
  position-split xs x ys none is =
      let at = split-position xs x ys none is in
      let many = length-append xs (x ∷ ys) in
      ap (λ b. cond b (Some (position_or_len p (xs ++ x ∷ ys))) None) (lt-ltb (position_or_len p (xs ++ x ∷ ys)) (length (xs ++ x ∷ ys)) (omega (arith, at, many)))
      ∙ ap Some at

  pub find-split : (xs : List A) (x : A) (ys : List A) → list_any p xs ≡ false → p x ≡ true → find p (xs ++ x ∷ ys) ≡ Some x
  find-split [] x ys none is = ap (λ b. cond b (Some x) (find p ys)) is
  find-split (y ∷ xs) x ys none is = by_test (p y) none (λ n. find-split xs x ys n is) where
    by_test : (b : Bool) → (b || list_any p xs) ≡ false → (list_any p xs ≡ false → find p (xs ++ x ∷ ys) ≡ Some x)
        → cond b (Some y) (find p (xs ++ x ∷ ys)) ≡ Some x
    by_test true none later = absurd cc
    by_test false none later = later none

-- a place that is found
pub position-low : {A : Type 0} (p : A → Bool) (xs : List A) (index : ℕ) → position p xs ≡ Some index → index < length xs
position-low p [] index at = absurd cc
position-low p (x ∷ xs) index at = (position-Some p (x ∷ xs) index x at).0

named-at : {A : Type 0} (name_of : A → List ℕ) (P : List ℕ → Type 0) (xs : List A) (name : List ℕ) (index : ℕ)
    → All (λ x. P (name_of x)) xs → position (λ x. bytes_eq (name_of x) name) xs ≡ Some index → P name
named-at name_of P [] name index all at = absurd cc
named-at name_of P (x ∷ xs) name index all at =
    let there = position-Some (λ y. bytes_eq (name_of y) name) (x ∷ xs) index x at in
    subst P ((bytes_eq-Decides (name_of (get_or (x ∷ xs) index x)) name).0 there.1) (all index x there.0)

-- what holds of the names of all inputs and of the stages so far holds of a name that stands for something among them
pub made-holds : (P : List ℕ → Type 0) (inputs : List Input) (earlier : List Stage) (name : List ℕ) → All (λ (i : Input). P i.name) inputs
    → All (λ (s : Stage). P s.name) earlier → IsSome (content_named inputs earlier name) → P name
unfolding content_named
made-holds P inputs earlier name given made there = by_input (input_at inputs name) refl there where
  by_stage : (o : Option ℕ) → stage_at earlier name ≡ o → IsSome (option_map content.Stage o) → P name
  by_stage None at there = absurd cc
  by_stage (Some index) at there = named-at (λ (s : Stage). s.name) P earlier name index made at

  by_input : (o : Option ℕ) → input_at inputs name ≡ o → IsSome (option_or (option_map content.Input o) (option_map content.Stage (stage_at earlier name))) → P name
  by_input None at there = by_stage (stage_at earlier name) refl there
  by_input (Some index) at there = named-at (λ (i : Input). i.name) P inputs name index given at

-- ---- a recipe that is split at a stage

all-before : (P : List ℕ → Type 0) (prefix : List (List ℕ)) (name : List ℕ) (rest : List (List ℕ)) → AllByRecursion P (prefix ++ name ∷ rest) → P name
all-before P [] name rest all = all.0
all-before P (x ∷ prefix) name rest all = all-before P prefix name rest all.1

distinct-prefix : (prefix : List (List ℕ)) (name : List ℕ) (rest : List (List ℕ)) → IsDistinct bytes_eq (prefix ++ name ∷ rest)
    → list_any (λ x. bytes_eq x name) prefix ≡ false
unfolding IsDistinct
distinct-prefix [] name rest distinct = refl
distinct-prefix (x ∷ prefix) name rest distinct =
    or_from (bytes_eq x name) (list_any (λ y. bytes_eq y name) prefix) (all-before (λ y. bytes_eq x y ≡ false) prefix name rest distinct.0)
    (distinct-prefix prefix name rest distinct.1)

pub record IsPlaced (recipe : RecipeContents) (earlier : List Stage) (stage : Stage) : Type 0 where
  pub content : content_named recipe.inputs recipe.stages stage.name ≡ Some (content.Stage (length earlier))
  pub found : stage_named recipe.stages stage.name ≡ Some stage
  pub kept : IsStage recipe earlier stage

pub stage-placed : (recipe : RecipeContents) (earlier : List Stage) (stage : Stage) (rest : List Stage) → IsRecipe recipe → recipe.stages ≡ earlier ++ stage ∷ rest
    → IsPlaced recipe earlier stage
unfolding content_named
stage-placed recipe earlier stage rest ok split =
    let test : List ℕ → Bool = λ x. bytes_eq x stage.name in
    let name : Stage → List ℕ = λ s. s.name in
    let input_names : List (List ℕ) = map (λ (i : Input). i.name) recipe.inputs in
    let source_names : List (List ℕ) = map (λ (s : Source). s.name) recipe.sources in
    let prefix : List (List ℕ) = input_names ++ source_names in
    let names : all_names recipe ≡ (prefix ++ map name earlier) ++ stage.name ∷ map name rest =
    ap (λ s. prefix ++ map name s) split ∙ ap (λ l. prefix ++ l) (map-append name earlier (stage ∷ rest))
    ∙ sym (append_assoc prefix (map name earlier) (stage.name ∷ map name rest)) in
    let none = distinct-prefix (prefix ++ map name earlier) stage.name (map name rest) (subst (IsDistinct bytes_eq) names ok.names) in
    let parts = or_parts (list_any test prefix) (list_any test (map name earlier)) (sym (list_any-append test prefix (map name earlier)) ∙ none) in
    let tables = or_parts (list_any test input_names) (list_any test source_names) (sym (list_any-append test input_names source_names) ∙ parts.0) in
    let no_input = sym (any_map (λ (i : Input). i.name) stage.name recipe.inputs) ∙ tables.0 in
    let no_earlier = sym (any_map name stage.name earlier) ∙ parts.1 in
    let own : bytes_eq stage.name stage.name ≡ true = (bytes_eq-Decides stage.name stage.name).1 refl in
    let mine : Stage → Bool = λ s. bytes_eq s.name stage.name in
    record {
      content = ap₂ (λ i s. option_or (option_map content.Input i) (option_map content.Stage s))
          (no-position (λ (i : Input). bytes_eq i.name stage.name) recipe.inputs no_input)
          (ap (position mine) split ∙ position-split mine earlier stage rest no_earlier own);
      found = ap (find mine) split ∙ find-split mine earlier stage rest no_earlier own;
      kept = subst (λ e. IsStage recipe e stage) (ap (take (length earlier)) split ∙ take-prefix earlier (stage ∷ rest))
          (ok.stages (length earlier) stage (ap (λ s. slice_get s (length earlier)) split ∙ get-split earlier stage rest));
    }
