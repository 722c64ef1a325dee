-- The first stages of a recipe, run in order as `bench` runs them, up to the first that is not done. docs/reference/step.md says the same
-- for people.
use Rattle.std.specs.Prelude.{ℕ, suc, Result, Ok, Err, List, [], ◌∷◌, ◌++◌, length}
use Rattle.recipe.specs.declared.contents.RecipeContents.{RecipeContents}
use Rattle.recipe.specs.declared.parts.Stage.{Stage}
use Rattle.audit_rules.specs.Bench.{bench_from}
use Rattle.audit_rules.specs.declared.answer.AuditAnswer.{AuditAnswer}
use Rattle.audit_rules.specs.declared.answer.AuditAnswer.TheVariants.{Fails}
use Rattle.audit_rules.specs.declared.answer.StageFault.{StageFault}
use Rattle.audit_rules.specs.declared.answer.Finished.{Finished}
use Rattle.audit_rules.specs.Stages.{stage_result}
use Rattle.audit_run.specs.declared.earlier.Unfinished.{Unfinished}

-- with a fault at the stage of this number the run is over; else the next part continues with the finished stage
abbrev pub unless_unfinished : ℕ → Result Finished StageFault → (Finished → Result (List Finished) Unfinished) → Result (List Finished) Unfinished
unless_unfinished number (Err fault) next = Err (record { stage = number; fault = fault })
unless_unfinished number (Ok f) next = next f

-- the result of running stages after those that are done: all of them finished, or the first that is not done
abbrev pub done_in_order : RecipeContents → List (List ℕ) → List Finished → List Stage → Result (List Finished) Unfinished
done_in_order recipe inputs done [] = Ok done
done_in_order recipe inputs done (stage ∷ stages) =
    unless_unfinished (suc (length done)) (stage_result recipe inputs done stage) (λ f. done_in_order recipe inputs (done ++ f ∷ []) stages)

-- the audit's answer after them, with the stages that are left
abbrev pub goes_on_after : RecipeContents → List (List ℕ) → List Stage → Result (List Finished) Unfinished → AuditAnswer
goes_on_after recipe inputs stages (Ok done) = bench_from recipe inputs done stages
goes_on_after recipe inputs stages (Err not_done) = Fails not_done.stage not_done.fault
