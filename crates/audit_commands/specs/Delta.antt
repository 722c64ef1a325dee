-- `delta-start RECIPE BASE PATCH REPORT STEPS` and `delta-resume RECIPE BASE PATCH REPORT STEPS`: an audit continues by at most so many
-- steps. It starts from the position of a whole save, or of that save and a delta; the delta against the whole save is kept.
-- docs/reference/command-line.md and docs/reference/delta.md say the same for people.
use Rattle.std.specs.Prelude.{ℕ, Result, List, [], ◌∷◌, if◌then◌else◌}
use Rattle.ddc_base.specs.Limits.{most_save}
use Rattle.recipe.specs.declared.contents.RecipeContents.{RecipeContents}
use Rattle.audit_rules.specs.Positions.{Position, forward}
use Rattle.audit_run.specs.Delta.Deltas.{delta_text_of}
use Rattle.audit_run.specs.Delta.Judged.{judged_from}
use Rattle.audit_run.specs.Save.Saves.{save_of}
use Rattle.audit_run.specs.declared.delta.reading.DeltaRefusal.{DeltaRefusal}
use Rattle.command_plan.specs.declared.status.Status.TheVariants.{SaveRefused}
use Rattle.command_plan.specs.Words.{are_four_files, as_steps, or_usage, usage}
use Rattle.command_plan.specs.Plan.{Plan, answers, needs, unless_refused}
use Rattle.recipe_plan.specs.Recipes.{needs_apart, needs_inputs, needs_recipe}
use Rattle.audit_commands.specs.Pause.{came_to, needs_position}
use Rattle.audit_commands.specs.PauseTexts.{delta_refused_line}

-- ---- `delta-start`

-- the position of BASE, and then the audit from there; the delta against that position is kept
abbrev pub starts_relative : RecipeContents → List (List ℕ) → List ℕ → List ℕ → List ℕ → ℕ → Plan
starts_relative recipe inputs text patch report steps =
    needs_position recipe inputs text (λ base.
    came_to recipe (delta_text_of recipe inputs base) patch report (forward recipe inputs base steps))

-- the plan of `delta-start`: the recipe; a report, a base and a patch that are not inputs; the base, of at most 4,294,967,296 bytes; the
-- inputs; and then the audit from the base's position
unfoldable pub delta_start_files : List ℕ → List ℕ → List ℕ → List ℕ → ℕ → Plan
delta_start_files recipe base patch report steps =
    needs_recipe recipe (λ parsed.
    needs_apart parsed report (λ _.
    needs_apart parsed base (λ _.
    needs_apart parsed patch (λ _.
    needs base most_save (λ text.
    needs_inputs parsed (λ inputs.
    starts_relative parsed inputs text patch report steps))))))

-- ---- `delta-resume`

-- the result of reading a text as a delta against a base: the one that the rules of deltas allow other than out of memory
unfoldable pub read_relative : RecipeContents → List (List ℕ) → Position → List ℕ → Result Position DeltaRefusal
read_relative recipe inputs base text = judged_from recipe (save_of recipe inputs base) text

-- the position that a delta says, reached or not; or the delta is refused
abbrev pub needs_position_relative : RecipeContents → List (List ℕ) → Position → List ℕ → (Position → Plan) → Plan
needs_position_relative recipe inputs base text next =
    unless_refused (read_relative recipe inputs base text) (λ refusal. answers SaveRefused (delta_refused_line refusal)) next

-- the position of BASE and PATCH, and then the audit from there; the delta against BASE's position is kept
abbrev pub resumes_relative : RecipeContents → List (List ℕ) → List ℕ → List ℕ → List ℕ → List ℕ → ℕ → Plan
resumes_relative recipe inputs text delta patch report steps =
    needs_position recipe inputs text (λ base.
    needs_position_relative recipe inputs base delta (λ p.
    came_to recipe (delta_text_of recipe inputs base) patch report (forward recipe inputs p steps)))

-- the plan of `delta-resume`: like `delta-start`, with the patch, of at most 4,294,967,296 bytes, loaded after the base
unfoldable pub delta_resume_files : List ℕ → List ℕ → List ℕ → List ℕ → ℕ → Plan
delta_resume_files recipe base patch report steps =
    needs_recipe recipe (λ parsed.
    needs_apart parsed report (λ _.
    needs_apart parsed base (λ _.
    needs_apart parsed patch (λ _.
    needs base most_save (λ text.
    needs patch most_save (λ delta.
    needs_inputs parsed (λ inputs.
    resumes_relative parsed inputs text delta patch report steps)))))))

-- ---- the words

-- the words after either command: four distinct files and a number of steps
abbrev pub delta_words : (List ℕ → List ℕ → List ℕ → List ℕ → ℕ → Plan) → List ℕ → List ℕ → List ℕ → List ℕ → List ℕ → Plan
delta_words files recipe base patch report steps =
    or_usage (as_steps steps) (λ count. if are_four_files recipe base patch report then files recipe base patch report count else usage)

abbrev pub delta_start_plan : List (List ℕ) → Plan
delta_start_plan (recipe ∷ base ∷ patch ∷ report ∷ steps ∷ []) = delta_words delta_start_files recipe base patch report steps
delta_start_plan _ = usage

abbrev pub delta_resume_plan : List (List ℕ) → Plan
delta_resume_plan (recipe ∷ base ∷ patch ∷ report ∷ steps ∷ []) = delta_words delta_resume_files recipe base patch report steps
delta_resume_plan _ = usage
