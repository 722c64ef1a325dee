-- Two plans that load the same, side by side: what holds of what they come to.
use Rattle.std.proofs.Common.{◌≡◌, ℕ, ◌-◌, Bool, true, false, cond, Result, Ok, Err, List, [], ◌∷◌, length, min, refl}
use Rattle.ddc_base.specs.declared.outside.Loaded.{Loaded}
use Rattle.ddc_base.specs.declared.outside.Loaded.TheVariants.{Bytes, Absent, TooLong}
use Rattle.ddc_base.specs.Outside.{NamedFiles, loaded}
use Rattle.ddc_base.specs.Limits.{most_content, most_inputs, most_recipe}
use Rattle.recipe.specs.Reading.{recipe_of}
use Rattle.recipe.specs.declared.contents.RecipeContents.{RecipeContents}
use Rattle.command_plan.specs.declared.status.Status.{Status}
use Rattle.command_plan.specs.declared.status.Status.TheVariants.{FileRefused, RecipeRefused, Usage}
use Rattle.command_plan.specs.Plan.{Plan, Outcome, answers, follow, needs, needs_all, outcome, unless_refused}
use Rattle.command_plan.specs.Texts.{absent_line, too_long_line, usage_line}
use Rattle.command_plan.specs.Words.{usage}
use Rattle.recipe_plan.specs.Recipes.{is_input, needs_apart, needs_inputs, needs_recipe, paths}
use Rattle.recipe_plan.specs.Texts.{recipe_line}
use Rattle.ddc_app.specs.Accepting.{is_compared}
use Rattle.ddc_app.specs.Holding.{AreHeld}
use Rattle.ddc_app.specs.Pausing.{is_paused}

-- an answer over the files
abbrev pub told : NamedFiles → Status → List ℕ → Outcome
told files status text = record { status = status; text = text; files = files }

-- an answer that compares nothing and leaves nothing to resume
abbrev pub IsRefusal : Status → Type 0
IsRefusal status = (is_paused status ≡ false) × (is_compared status ≡ false)

module _ (Both : Outcome → Outcome → Type 0) (files : NamedFiles)
    (refused : (status : Status) (text : List ℕ) → IsRefusal status → Both (told files status text) (told files status text)) where
  pub both_need : (name : List ℕ) (limit : ℕ) (first second : List ℕ → Plan)
      → ((content : List ℕ) → loaded files name limit ≡ Bytes content → Both (outcome (first content) files) (outcome (second content) files))
      → Both (outcome (needs name limit first) files) (outcome (needs name limit second) files)
  both_need name limit first second both = by (loaded files name limit) refl where
    by : (l : Loaded) → loaded files name limit ≡ l
        → Both (follow l (λ c. outcome (first c) files) (told files FileRefused) name) (follow l (λ c. outcome (second c) files) (told files FileRefused) name)
    by (Bytes content) is = both content is
    by Absent is = refused FileRefused (absent_line name) (refl, refl)
    by TooLong is = refused FileRefused (too_long_line name) (refl, refl)

  pub both_need_all : (most budget : ℕ) (names : List (List ℕ)) (first second : List (List ℕ) → Plan)
      → ((contents : List (List ℕ)) → AreHeld most budget files names contents → Both (outcome (first contents) files) (outcome (second contents) files))
      → Both (outcome (needs_all most budget names first) files) (outcome (needs_all most budget names second) files)
  both_need_all most budget [] first second both = both [] tt
  both_need_all most budget (name ∷ names) first second both =
      both_need name (min most budget) (λ c. needs_all most (budget - length c) names (λ contents. first (c ∷ contents)))
      (λ c. needs_all most (budget - length c) names (λ contents. second (c ∷ contents)))
      (λ c is. both_need_all most (budget - length c) names (λ contents. first (c ∷ contents)) (λ contents. second (c ∷ contents))
      (λ contents held. both (c ∷ contents) (is, held)))

  pub both_read : {A E : Type 0} (reading : Result A E) (status : Status) (text : E → List ℕ) (first second : A → Plan) → IsRefusal status
      → ((value : A) → reading ≡ Ok value → Both (outcome (first value) files) (outcome (second value) files))
      → Both (outcome (unless_refused reading (λ e. answers status (text e)) first) files) (outcome (unless_refused reading (λ e. answers status (text e)) second) files)
  both_read (Ok value) status text first second refusal both = both value refl
  both_read (Err e) status text first second refusal both = refused status (text e) refusal

  pub both_need_recipe : (recipe : List ℕ) (first second : RecipeContents → Plan)
      → ((bytes : List ℕ) (parsed : RecipeContents) → loaded files recipe most_recipe ≡ Bytes bytes → recipe_of bytes ≡ Ok parsed → Both (outcome (first parsed) files) (outcome (second parsed) files))
      → Both (outcome (needs_recipe recipe first) files) (outcome (needs_recipe recipe second) files)
  both_need_recipe recipe first second both =
      both_need recipe most_recipe (λ bytes. unless_refused (recipe_of bytes) (λ e. answers RecipeRefused (recipe_line e)) first)
      (λ bytes. unless_refused (recipe_of bytes) (λ e. answers RecipeRefused (recipe_line e)) second)
      (λ bytes held. both_read (recipe_of bytes) RecipeRefused recipe_line first second (refl, refl) (λ parsed reads. both bytes parsed held reads))

  pub both_need_apart : (parsed : RecipeContents) (file : List ℕ) (first second : Unit {0} → Plan)
      → (is_input parsed file ≡ false → Both (outcome (first tt) files) (outcome (second tt) files))
      → Both (outcome (needs_apart parsed file first) files) (outcome (needs_apart parsed file second) files)
  unfolding needs_apart
  both_need_apart parsed file first second both = by (is_input parsed file) refl where
    by : (clash : Bool) → is_input parsed file ≡ clash → Both (outcome (cond clash usage (first tt)) files) (outcome (cond clash usage (second tt)) files)
    by true is = refused Usage usage_line (refl, refl)
    by false is = both is

  pub both_need_inputs : (parsed : RecipeContents) (first second : List (List ℕ) → Plan)
      → ((inputs : List (List ℕ)) → AreHeld most_content most_inputs files (paths parsed) inputs → Both (outcome (first inputs) files) (outcome (second inputs) files))
      → Both (outcome (needs_inputs parsed first) files) (outcome (needs_inputs parsed second) files)
  both_need_inputs parsed first second both = both_need_all most_content most_inputs (paths parsed) first second both
