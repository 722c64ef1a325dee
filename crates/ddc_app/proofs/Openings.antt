-- A recipe and its inputs in files, and what a plan that needs them goes on to.
use Rattle.std.proofs.Common.{◌≡◌, ℕ, Bool, false, cond, Ok, List, length, ap, ◌∙◌, subst}
use Rattle.std.specs.FinMap as finite
use Rattle.std.proofs.lemmas.List.{length-map}
use Rattle.ddc_base.specs.declared.outside.Loaded.TheVariants.{Bytes}
use Rattle.ddc_base.specs.Outside.{NamedFiles, loaded}
use Rattle.ddc_base.specs.Limits.{most_content, most_inputs, most_recipe}
use Rattle.recipe.specs.declared.text.refusal.RecipeRefusal.{RecipeRefusal as Refusal}
use Rattle.recipe.specs.Kept.{IsRecipe}
use Rattle.recipe.specs.Reading.{recipe_of}
use Rattle.recipe.specs.declared.contents.RecipeContents.{RecipeContents}
use Rattle.recipe.specs.declared.parts.Input.{Input}
use Rattle.recipe.proofs.Keeps.{reads_keep}
use Rattle.audit_rules.specs.Valid.{IsInputs}
use Rattle.command_plan.specs.declared.status.Status.TheVariants.{RecipeRefused}
use Rattle.command_plan.specs.Plan.{LoadsBytes, Plan, answers, outcome, unless_refused}
use Rattle.command_plan.specs.Words.{is_one_file, usage}
use Rattle.recipe_plan.specs.Recipes.{is_input, needs_apart, needs_inputs, needs_recipe, paths}
use Rattle.recipe_plan.specs.Texts.{recipe_line}
use Rattle.ddc_app.specs.Holding.{AreHeld}
use Rattle.ddc_app.proofs.Loads.{as_many, follow_all, follows, found_again, loaded_contents, loads_bytes, other_held}

-- a file that is none of the inputs, and one that is
pub apart_opens : (parsed : RecipeContents) (file : List ℕ) (next : Unit {0} → Plan) (files : NamedFiles) (clash : Bool) → is_input parsed file ≡ clash
    → outcome (needs_apart parsed file next) files ≡ outcome (cond clash usage (next tt)) files
unfolding needs_apart
apart_opens parsed file next files clash is = ap (λ c. outcome (cond c usage (next tt)) files) is

pub apart_loads : (parsed : RecipeContents) (file : List ℕ) (next : Unit {0} → Plan) (files : NamedFiles) → is_input parsed file ≡ false → LoadsBytes (needs_apart parsed file next) files
    → LoadsBytes (next tt) files
unfolding needs_apart
apart_loads parsed file next files apart bytes = subst (λ clash. LoadsBytes (cond clash usage (next tt)) files) apart bytes

-- the files hold a recipe that reads and its inputs
pub record Holds (recipe : List ℕ) (parsed : RecipeContents) (inputs : List (List ℕ)) (files : NamedFiles) : Type 0 where
  pub bytes : List ℕ
  pub recipe_held : loaded files recipe most_recipe ≡ Bytes bytes
  pub reads : recipe_of bytes ≡ Ok parsed
  pub inputs_held : AreHeld most_content most_inputs files (paths parsed) inputs

module _ (recipe : List ℕ) (parsed : RecipeContents) (inputs : List (List ℕ)) (files : NamedFiles) (h : Holds recipe parsed inputs files) where
  pub recipe_opens : (next : RecipeContents → Plan) → outcome (needs_recipe recipe next) files ≡ outcome (next parsed) files
  recipe_opens next =
      let refuse : Refusal → Plan = λ refusal. answers RecipeRefused (recipe_line refusal) in
      follows recipe most_recipe (λ bytes. unless_refused (recipe_of bytes) refuse next) files h.bytes h.recipe_held
      ∙ ap (λ reading. outcome (unless_refused reading refuse next) files) h.reads

  -- where a plan's loads find bytes, so do those after its recipe
  pub recipe_loads : (next : RecipeContents → Plan) → LoadsBytes (needs_recipe recipe next) files → LoadsBytes (next parsed) files
  recipe_loads next bytes =
      let refuse : Refusal → Plan = λ refusal. answers RecipeRefused (recipe_line refusal) in
      subst (λ reading. LoadsBytes (unless_refused reading refuse next) files) h.reads
      (loads_bytes recipe most_recipe (λ b. unless_refused (recipe_of b) refuse next) files h.bytes h.recipe_held bytes).1

  pub inputs_open : (next : List (List ℕ) → Plan) → outcome (needs_inputs parsed next) files ≡ outcome (next inputs) files
  inputs_open next = follow_all most_content most_inputs files (paths parsed) inputs next h.inputs_held

  -- also once another name was set
  pub holds_again : (name content : List ℕ) → is_one_file recipe name ≡ false → is_input parsed name ≡ false → Holds recipe parsed inputs (finite.insert files name content)
  holds_again name content other apart = record {
    bytes = h.bytes;
    recipe_held = other_held files name content recipe most_recipe other ∙ h.recipe_held;
    reads = h.reads;
    inputs_held = found_again most_content most_inputs files name content (λ (input : Input). input.path) parsed.inputs inputs apart h.inputs_held;
  }

  pub is_recipe : IsRecipe parsed
  is_recipe = reads_keep h.bytes parsed h.reads

  count : length inputs ≡ length parsed.inputs
  count = as_many most_content most_inputs files (paths parsed) inputs h.inputs_held ∙ length-map parsed.inputs (λ (input : Input). input.path)

  pub are_loaded : (next : List (List ℕ) → Plan) → LoadsBytes (needs_inputs parsed next) files → IsInputs parsed inputs
  are_loaded next bytes = record { count = count; each = loaded_contents most_inputs files (paths parsed) inputs next h.inputs_held bytes }
