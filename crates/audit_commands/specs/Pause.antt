-- `part RECIPE SAVE REPORT STEPS` and `resume RECIPE SAVE REPORT STEPS`: an audit runs at most so many steps, from its beginning or from
-- the position of a save. docs/reference/command-line.md and docs/reference/save.md say the same for people.
use Rattle.std.specs.Prelude.{ℕ, ◌+◌, Result, List, [], ◌∷◌, length, if◌then◌else◌}
use Rattle.ddc_base.specs.Limits.{most_save}
use Rattle.recipe.specs.declared.contents.RecipeContents.{RecipeContents}
use Rattle.audit_rules.specs.Positions.{Position, Phase, On, Over, forward, position}
use Rattle.save_format.specs.Encoded.{text_of_save}
use Rattle.audit_run.specs.Save.Judged.{judged}
use Rattle.audit_run.specs.Save.Saves.{save_of}
use Rattle.audit_run.specs.declared.save.reading.SaveRefusal.{SaveRefusal}
use Rattle.command_plan.specs.declared.status.Status.TheVariants.{Paused, SaveRefused}
use Rattle.command_plan.specs.Words.{are_three_files, as_steps, or_usage, usage}
use Rattle.command_plan.specs.Plan.{Plan, answers, needs, sets, unless_refused}
use Rattle.recipe_plan.specs.Recipes.{needs_apart, needs_inputs, needs_recipe}
use Rattle.audit_commands.specs.Audit.{audited}
use Rattle.recipe_plan.specs.NotDone.{stage_name}
use Rattle.audit_commands.specs.PauseTexts.{paused_line, save_refused_line}

-- ---- where an audit stands afterwards

-- what these commands save of a position: its whole save
abbrev pub whole_save : RecipeContents → List (List ℕ) → Position → List ℕ
whole_save recipe inputs p = text_of_save (save_of recipe inputs p)

-- at a position, its text is saved, and the present stage is printed with the steps taken in it
unfoldable pub paused : RecipeContents → (Position → List ℕ) → List ℕ → Position → Plan
paused recipe kept name p =
    sets name (kept p) (answers Paused (paused_line (stage_name recipe.stages (length p.done + 1)) p.at.steps))

-- the plan afterwards: that of `audit` if the audit is over, else a pause at a position
abbrev pub came_to : RecipeContents → (Position → List ℕ) → List ℕ → List ℕ → Phase → Plan
came_to recipe kept name report (Over answer) = audited recipe report answer
came_to recipe kept name report (On p) = paused recipe kept name p

-- ---- `part`

-- the plan of `part`: the recipe, a report and a save that are not inputs, the inputs, and then the audit from its beginning
unfoldable pub part_files : List ℕ → List ℕ → List ℕ → ℕ → Plan
part_files recipe save report steps =
    needs_recipe recipe (λ parsed.
    needs_apart parsed report (λ _.
    needs_apart parsed save (λ _.
    needs_inputs parsed (λ inputs.
    came_to parsed (whole_save parsed inputs) save report (position parsed inputs steps)))))

-- ---- `resume`

-- the result of reading a text as a save of a recipe and its inputs: the one that the rules of saves allow other than out of memory
unfoldable pub read_as : RecipeContents → List (List ℕ) → List ℕ → Result Position SaveRefusal
read_as recipe inputs text = judged recipe inputs text

-- the position that a save says, reached or not; or the save is refused
abbrev pub needs_position : RecipeContents → List (List ℕ) → List ℕ → (Position → Plan) → Plan
needs_position recipe inputs text next =
    unless_refused (read_as recipe inputs text) (λ refusal. answers SaveRefused (save_refused_line refusal)) next

-- the plan of `resume`: the recipe; a report and a save that are not inputs; the save, of at most 4,294,967,296 bytes; the inputs. The
-- audit then continues from the save's position
unfoldable pub resume_files : List ℕ → List ℕ → List ℕ → ℕ → Plan
resume_files recipe save report steps =
    needs_recipe recipe (λ parsed.
    needs_apart parsed report (λ _.
    needs_apart parsed save (λ _.
    needs save most_save (λ text.
    needs_inputs parsed (λ inputs.
    needs_position parsed inputs text (λ p.
    came_to parsed (whole_save parsed inputs) save report (forward parsed inputs p steps)))))))

-- ---- the words

-- the plan of the words after either command
abbrev pub part_plan : List (List ℕ) → Plan
part_plan (recipe ∷ save ∷ report ∷ steps ∷ []) =
    or_usage (as_steps steps) (λ count. if are_three_files recipe save report then part_files recipe save report count else usage)
part_plan _ = usage

abbrev pub resume_plan : List (List ℕ) → Plan
resume_plan (recipe ∷ save ∷ report ∷ steps ∷ []) =
    or_usage (as_steps steps) (λ count. if are_three_files recipe save report then resume_files recipe save report count else usage)
resume_plan _ = usage
