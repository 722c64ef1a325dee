use Rattle.std.proofs.Common.{ℕ, List, refl}
use Rattle.audit_rules.specs.declared.answer.Finished.{Finished}
use Rattle.command_plan.proofs.Obtaining.{and_then, leads, stops_before, stops_with}
use Rattle.stage_commands.specs.Ready.{needs_ready}
use Rattle.stage_commands.proofs.ready.make_ready.Goals as goal

pub returns-in_err-names_other-clause-obtained : goal.returns-in_err-names_other-clause-obtained
unfolding needs_ready
returns-in_err-names_other-clause-obtained g c = stops_with c.from_residual.ensures.1 (stops_before (c.in_err-names_other.ensures _))

pub returns-in_err-recipe-clause-obtained : goal.returns-in_err-recipe-clause-obtained
unfolding needs_ready
returns-in_err-recipe-clause-obtained g c = stops_with c.from_residual-in_err-recipe.ensures.1 (and_then (c.in_ok-names_other.ensures _) (stops_before c.in_err-recipe.ensures))

pub returns-in_err-inputs-clause-obtained : goal.returns-in_err-inputs-clause-obtained
unfolding needs_ready
returns-in_err-inputs-clause-obtained g c =
    stops_with c.from_residual-in_err-inputs.ensures.1
    (and_then (c.in_ok-names_other.ensures _) (and_then c.in_ok-recipe.ensures
    (stops_before {second = λ (found : List (List ℕ) × List Finished) next. next (record { recipe = c.in_ok-recipe.recipe; inputs = found.0; done = found.1 })} c.in_err-inputs.ensures.obtained)))

pub returns-clause-obtained : goal.returns-clause-obtained
unfolding needs_ready
returns-clause-obtained g c =
    and_then (c.in_ok-names_other.ensures _) (and_then c.in_ok-recipe.ensures
    (and_then {second = λ (found : List (List ℕ) × List Finished) next. next (record { recipe = c.in_ok-recipe.recipe; inputs = found.0; done = found.1 })} c.in_ok-inputs.ensures.obtained (leads _ _ _ (λ next. refl))))
