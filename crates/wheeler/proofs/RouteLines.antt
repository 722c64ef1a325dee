-- The lines of a route are those of the whole list that are about its members, in its order.
use Rattle.std.proofs.Common.{◌≡◌, ℕ, Bool, true, false, cond, Option, None, Some, List, [], ◌∷◌, ◌++◌, refl, sym, ap, ap₂, ◌∙◌, subst, All}
use Rattle.std.specs.Prelude.{bytes_eq, filter, filter_map}
use Rattle.std.specs.List.{cons_option}
use Rattle.std.proofs.lemmas.List.Elements.{All-filter, filter-append}
use Rattle.recipe.specs.declared.contents.RecipeContents.{RecipeContents}
use Rattle.recipe.specs.declared.parts.Input.{Input}
use Rattle.recipe.specs.declared.parts.Stage.{Stage}
use Rattle.recipe.specs.Lookups.{hex_check, source_of}
use Rattle.wheeler.specs.declared.assumption.Assumption.{Assumption}
use Rattle.wheeler.specs.AllContents.{all_contents}
use Rattle.wheeler.specs.Assumptions.{Holds, LinesHold, assumed, checked_line, compiles_line, implements_line, input_assumption, is_trusted, line_by_check, stage_assumption, trust_lines}
use Rattle.wheeler.specs.Meaning.{Compiles, Prescribes}
use Rattle.wheeler.specs.Routes.{RouteHolds, about, assumed_for, is_on, route, route_named}
use Rattle.wheeler.proofs.RouteSuffices.{named-trusted, on-trusted}

-- ---- what a line is about

about-implements : (name : List ℕ) (source : Option (List ℕ)) (l : Assumption) → implements_line name source ≡ Some l → about l ≡ name
about-implements name None l is = absurd cc
about-implements name (Some source) l is = ap about_some (sym is) where
  about_some : Option Assumption → List ℕ
  about_some None = name
  about_some (Some line) = about line

about-compiles : (source becomes : Option (List ℕ)) (name : List ℕ) (l : Assumption) → compiles_line source name becomes ≡ Some l → about l ≡ name
about-compiles None becomes name l is = absurd cc
about-compiles (Some source) None name l is = absurd cc
about-compiles (Some source) (Some becomes) name l is = ap about_some (sym is) where
  about_some : Option Assumption → List ℕ
  about_some None = name
  about_some (Some line) = about line

about-checked : (name : List ℕ) (check source : Option (List ℕ)) (l : Assumption) → checked_line name check source ≡ Some l → about l ≡ name
about-checked name (Some check) (Some source) l is = by (bytes_eq check source) is where
  by : (b : Bool) → cond b None (implements_line name (Some source)) ≡ Some l → about l ≡ name
  by true is = absurd cc
  by false is = about-implements name (Some source) l is
about-checked name None (Some source) l is = about-implements name (Some source) l is
about-checked name None None l is = absurd cc
about-checked name (Some check) None l is = absurd cc

about-stage : (recipe : RecipeContents) (stage : Stage) (l : Assumption) → line_by_check recipe stage stage.check ≡ Some l → about l ≡ stage.name
about-stage recipe stage l is = by stage.check is where
  by : (o : Option (List ℕ)) → line_by_check recipe stage o ≡ Some l → about l ≡ stage.name
  by None is = about-compiles (source_of recipe stage.program) (source_of recipe stage.name) stage.name l is
  by (Some check) is = about-checked stage.name (hex_check recipe.sources check) (source_of recipe stage.name) l is

-- ---- fewer trusted names

module _ (few many : List ℕ → Bool) (among : (name : List ℕ) → few name ≡ true → many name ≡ true) where
  one-more : (name : List ℕ) (o : Option Assumption) → ((l : Assumption) → o ≡ Some l → about l ≡ name) → (b c : Bool) → few name ≡ b → many name ≡ c
      → (xs ys : List Assumption) → xs ≡ filter (λ l. few (about l)) ys
      → cons_option (cond b o None) xs ≡ filter (λ l. few (about l)) (cons_option (cond c o None) ys)
  one-more name None at true true isnt is xs ys later = later
  one-more name None at true false isnt is xs ys later = later
  one-more name None at false true isnt is xs ys later = later
  one-more name None at false false isnt is xs ys later = later
  one-more name (Some l) at true true few_is many_is xs ys later =
      let kept : few (about l) ≡ true = ap few (at l refl) ∙ few_is in
      ap (λ rest. l ∷ rest) later
      ∙ sym (ap (λ t. cond t (l ∷ filter (λ l. few (about l)) ys) (filter (λ l. few (about l)) ys)) kept)
  one-more name (Some l) at true false few_is many_is xs ys later =
      let both : false ≡ true = sym many_is ∙ among name few_is in absurd cc
  one-more name (Some l) at false true few_is many_is xs ys later =
      let dropped : few (about l) ≡ false = ap few (at l refl) ∙ few_is in
      later ∙ sym (ap (λ t. cond t (l ∷ filter (λ l. few (about l)) ys) (filter (λ l. few (about l)) ys)) dropped)
  one-more name (Some l) at false false few_is many_is xs ys later = later

  fewer : {X : Type 0} (name : X → List ℕ) (line : X → Option Assumption) → ((x : X) (l : Assumption) → line x ≡ Some l → about l ≡ name x) → (xs : List X)
      → filter_map (λ x. cond (few (name x)) (line x) None) xs
      ≡ filter (λ l. few (about l)) (filter_map (λ x. cond (many (name x)) (line x) None) xs)
  fewer name line at [] = refl
  fewer name line at (x ∷ xs) =
      one-more (name x) (line x) (at x) (few (name x)) (many (name x)) refl refl
      (filter_map (λ x. cond (few (name x)) (line x) None) xs) (filter_map (λ x. cond (many (name x)) (line x) None) xs) (fewer name line at xs)

  pub fewer-lines : (recipe : RecipeContents) → trust_lines few recipe ≡ filter (λ l. few (about l)) (trust_lines many recipe)
  unfolding trust_lines input_assumption stage_assumption
  fewer-lines recipe =
      ap₂ (λ a b. a ++ b)
      (fewer (λ (i : Input). i.name) (λ (i : Input). implements_line i.name (source_of recipe i.name)) (λ i l is. about-implements i.name (source_of recipe i.name) l is) recipe.inputs)
      (fewer (λ (s : Stage). s.name) (λ (s : Stage). line_by_check recipe s s.check) (λ s l is. about-stage recipe s l is) recipe.stages)
      ∙ sym (filter-append (λ l. few (about l)) (filter_map (input_assumption many recipe) recipe.inputs) (filter_map (stage_assumption many recipe) recipe.stages))

pub route-lines : (recipe : RecipeContents) (number : ℕ) → assumed_for recipe number ≡ filter (λ l. is_on (route recipe number) (about l)) (assumed recipe)
route-lines recipe number = fewer-lines (is_on (route recipe number)) (is_trusted recipe) (on-trusted recipe number) recipe

-- where every line of an audit holds, so do those of a route
pub routes-hold : (prescribes : Prescribes) (compiles : Compiles) (recipe : RecipeContents) (inputs : List (List ℕ)) (name : List ℕ) → LinesHold prescribes compiles recipe inputs
    → RouteHolds prescribes compiles recipe inputs name
routes-hold prescribes compiles recipe inputs name lines =
    let P : Assumption → Type 0 = Holds prescribes compiles recipe (all_contents recipe inputs) in
    let keep : Assumption → Bool = λ l. is_on (route_named recipe name) (about l) in
    subst (All P) (sym (fewer-lines (is_on (route_named recipe name)) (is_trusted recipe) (named-trusted recipe name) recipe))
    (All-filter keep P (assumed recipe) lines)
