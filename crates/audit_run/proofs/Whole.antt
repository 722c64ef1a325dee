-- A stage's run that is given all its steps ends.
use Rattle.std.proofs.Common.{◌≡◌, ℕ, ◌-◌, ◌+◌, ◌<◌, Some, Result, Err, List, sym, ap, ◌∙◌, arith}
use Rattle.guest_run.specs.State.{GuestState}
use Rattle.guest_run.specs.declared.run.RunEnd.TheVariants as answer
use Rattle.guest_run.specs.Run.{End, first_end, Runs as RunsBy}
use Rattle.guest_run.proofs.Running.{after-counted}
use Rattle.recipe.specs.declared.contents.RecipeContents.{RecipeContents}
use Rattle.recipe.specs.declared.parts.Stage.{Stage}
use Rattle.audit_rules.specs.declared.answer.StageFault.{StageFault}
use Rattle.audit_rules.specs.declared.answer.StageFault.TheVariants.{Runs}
use Rattle.audit_rules.specs.declared.answer.Finished.{Finished}
use Rattle.audit_rules.specs.declared.cause.RunCause.TheVariants as run
use Rattle.audit_rules.specs.Stages.{by_end, ending}
use Rattle.audit_run.specs.declared.phase.Moved.{Moved}
use Rattle.audit_run.specs.declared.phase.Moved.TheVariants as moved

-- after all its steps no step is left
pub whole-goes : (old new : GuestState) (limit slice : ℕ) → RunsBy old slice answer.Spent new → limit ≡ old.steps + slice → new.steps < limit → ⊥
whole-goes old new limit slice runs all left = let counted = after-counted old new slice runs.1 in omega (arith, counted, all, left)

module _ (recipe : RecipeContents) (inputs : List (List ℕ)) (done : List Finished) (stage : Stage) (old new : GuestState) (slice : ℕ) where
  pub whole-spent : slice ≡ stage.steps - old.steps → RunsBy old slice answer.Spent new
      → ◌≡◌ {A = Moved} (moved.Ended (Err (Runs run.Spent stage.steps))) (moved.Ended (by_end recipe inputs done stage (first_end old (stage.steps - old.steps))))
  whole-spent all runs =
      ap (λ e. moved.Ended (by_end recipe inputs done stage e)) (sym runs.0) ∙ ap (λ n. moved.Ended (by_end recipe inputs done stage (first_end old n))) all

  pub whole-end : (end : End) (r : Result Finished StageFault) → slice ≡ stage.steps - old.steps → first_end old slice ≡ Some (end, new) → r ≡ ending recipe inputs done stage end new
      → ◌≡◌ {A = Moved} (moved.Ended r) (moved.Ended (by_end recipe inputs done stage (first_end old (stage.steps - old.steps))))
  whole-end end r all ends meant =
      ap moved.Ended meant
      ∙ ap (λ e. moved.Ended (by_end recipe inputs done stage e)) (sym ends)
      ∙ ap (λ n. moved.Ended (by_end recipe inputs done stage (first_end old n))) all
