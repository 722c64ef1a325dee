-- What commands on one stage do first: find it and run the stages before it. docs/reference/command-line.md says the same for people.
use Rattle.std.specs.Prelude.{ℕ, List, [], take}
use Rattle.recipe.specs.Lookups.{stage_at}
use Rattle.recipe.specs.declared.contents.RecipeContents.{RecipeContents}
use Rattle.audit_rules.specs.declared.answer.Finished.{Finished}
use Rattle.audit_run.specs.Earlier.{done_in_order}
use Rattle.audit_run.specs.declared.earlier.Unfinished.{Unfinished}
use Rattle.command_plan.specs.Plan.{Plan, unless_refused}
use Rattle.command_plan.specs.Words.{or_usage}
use Rattle.recipe_plan.specs.NotDone.{unfinished}

-- the number of stages before STAGE; a usage answer where no stage has this name
abbrev pub needs_stage : RecipeContents → List ℕ → (ℕ → Plan) → Plan
needs_stage recipe word next = or_usage (stage_at recipe.stages word) next

-- runs so many stages; the first one that fails ends the command
abbrev pub needs_earlier : RecipeContents → List (List ℕ) → ℕ → (List Finished → Plan) → Plan
needs_earlier recipe inputs count next =
    unless_refused (done_in_order recipe inputs [] (take count recipe.stages)) (λ (not_done : Unfinished). unfinished recipe not_done.stage not_done.fault) next
