-- What commands on a recipe share: the recipe, its inputs, and the rule that other files are not inputs. docs/reference/command-line.md and
-- docs/reference/audit.md say the same for people.
use Rattle.std.specs.Prelude.{ℕ, Bool, List, ◌++◌, map, if◌then◌else◌}
use Rattle.std.specs.List.{list_any}
use Rattle.ddc_base.specs.Limits.{most_content, most_inputs, most_recipe}
use Rattle.recipe.specs.Reading.{recipe_of}
use Rattle.recipe.specs.declared.contents.RecipeContents.{RecipeContents}
use Rattle.recipe.specs.declared.parts.Input.{Input}
use Rattle.command_plan.specs.declared.status.Status.TheVariants.{RecipeRefused}
use Rattle.command_plan.specs.Words.{is_one_file, usage}
use Rattle.command_plan.specs.Plan.{Plan, answers, needs, needs_all, unless_refused}
use Rattle.recipe_plan.specs.Texts.{recipe_line}

-- a text is read as a recipe; the answer to any other text stands after `prefix`
abbrev pub reads_recipe_after : List ℕ → List ℕ → (RecipeContents → Plan) → Plan
reads_recipe_after prefix text next = unless_refused (recipe_of text) (λ refusal. answers RecipeRefused (prefix ++ recipe_line refusal)) next

abbrev pub reads_recipe : List ℕ → (RecipeContents → Plan) → Plan
reads_recipe text next = unless_refused (recipe_of text) (λ refusal. answers RecipeRefused (recipe_line refusal)) next

-- the plan needs a recipe of at most 1,048,576 bytes, and reads it
abbrev pub needs_recipe_after : List ℕ → List ℕ → (RecipeContents → Plan) → Plan
needs_recipe_after prefix file next = needs file most_recipe (λ bytes. reads_recipe_after prefix bytes next)

abbrev pub needs_recipe : List ℕ → (RecipeContents → Plan) → Plan
needs_recipe file next = needs file most_recipe (λ bytes. reads_recipe bytes next)

-- the paths of the inputs, in order
abbrev pub paths : RecipeContents → List (List ℕ)
paths recipe = map (λ (input : Input). input.path) recipe.inputs

-- whether a file is one of the inputs, by its path
abbrev pub is_input : RecipeContents → List ℕ → Bool
is_input recipe file = list_any (λ (input : Input). is_one_file input.path file) recipe.inputs

-- the file must not be an input
unfoldable pub needs_apart : RecipeContents → List ℕ → (Unit {0} → Plan) → Plan
needs_apart recipe file next = if is_input recipe file then usage else next tt

-- the plan needs the inputs, each of at most 268,435,456 bytes and all of at most `budget` together
abbrev pub needs_inputs_within : ℕ → RecipeContents → (List (List ℕ) → Plan) → Plan
needs_inputs_within budget recipe next = needs_all most_content budget (paths recipe) next

-- the plan needs the inputs, all of at most 1,073,741,824 bytes together
abbrev pub needs_inputs : RecipeContents → (List (List ℕ) → Plan) → Plan
needs_inputs recipe next = needs_inputs_within most_inputs recipe next
