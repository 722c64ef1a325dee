-- `rests RECIPE STAGE`: prints where a stage's artefact comes from, by the recipe alone. docs/reference/command-line.md and
-- docs/reference/rests.md say the same for people.
use Rattle.std.specs.Prelude.{ℕ, ◌&&◌, List, [], ◌∷◌, ◌++◌, codes, flat_map, if◌then◌else◌}
use Rattle.ddc_base.specs.Lines.{line}
use Rattle.recipe.specs.declared.contents.RecipeContents.{RecipeContents}
use Rattle.recipe.specs.declared.parts.Stage.{Stage}
use Rattle.wheeler.specs.AllContents.{stage_named}
use Rattle.audit_chain.specs.Rests.Basis.{layouts, lines, own_layout, ran, spoken, texts}
use Rattle.command_plan.specs.declared.status.Status.TheVariants.{Yes}
use Rattle.command_plan.specs.Plan.{Plan, answers}
use Rattle.command_plan.specs.Words.{has_no_zero_byte, is_file_word, or_usage, usage}
use Rattle.recipe_plan.specs.Recipes.{needs_recipe}
use Rattle.verify_commands.specs.Texts.{assumption_line}

-- a line for each name, after the kind of the fact
abbrev pub names_text : List ℕ → List (List ℕ) → List ℕ
names_text what names = flat_map (λ name. line (what ∷ name ∷ [])) names

-- In this order: the inputs that are read; the stages whose layout is free and matters; the stage itself, if its check leaves its layout
-- free. Then the unchecked stages among the dependencies, the assumptions about programs, and the stages whose artefacts are files of
-- sources that these assumptions name
unfoldable pub rests_text : RecipeContents → List ℕ → List ℕ
rests_text recipe name =
    names_text (codes "text") (texts recipe name)
    ++ names_text (codes "layout") (layouts recipe name)
    ++ names_text (codes "layout") (own_layout recipe name)
    ++ names_text (codes "run") (ran recipe name)
    ++ flat_map assumption_line (lines recipe name)
    ++ names_text (codes "speaks") (spoken recipe name)

-- STAGE must be the name of a stage
unfoldable pub rested : RecipeContents → List ℕ → Plan
rested recipe word = or_usage (stage_named recipe.stages word) (λ (stage : Stage). answers Yes (rests_text recipe stage.name))

-- loads the recipe and nothing else
unfoldable pub rests_files : List ℕ → List ℕ → Plan
rests_files recipe stage = needs_recipe recipe (λ parsed. rested parsed stage)

-- the plan for the words after `rests`: RECIPE is a file name, and STAGE has no zero byte
abbrev pub rests_plan : List (List ℕ) → Plan
rests_plan (recipe ∷ stage ∷ []) = if is_file_word recipe && has_no_zero_byte stage then rests_files recipe stage else usage
rests_plan _ = usage
