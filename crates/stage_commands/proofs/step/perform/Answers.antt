use Rattle.std.proofs.Common.{ℕ, List, map, sym, ap, ◌∙◌}
use Rattle.std.specs.Borrow.{Bor}
use Rattle.prompt.specs.Talks.{talk}
use Rattle.audit_rules.specs.declared.answer.Finished.{Finished}
use Rattle.command_plan.specs.Plan.{talks}
use Rattle.command_plan.specs.Words.{or_usage}
use Rattle.command_plan.proofs.Obtaining.{ends_before, goes_on_with, holds_with, stops_holding}
use Rattle.step_debug.specs.Sessions.{reply_to}
use Rattle.stage_commands.specs.Step.{needs_session, step_stage}
use Rattle.stage_commands.proofs.Stepping.{of_same_plan}
use Rattle.stage_commands.proofs.Worded.{over_stage, steps}
use Rattle.stage_commands.proofs.step.perform.Goals as goal

pub returns-in_default : goal.returns-in_default
returns-in_default g c =
    of_same_plan (steps (map (λ (word : Bor (List ℕ)). word.now) c.args.words.now) ∙ ap (λ read. or_usage read over_stage) (sym c.in_default.ensures)) (c.refuse.ensures _)

pub returns-in_err-recipe : goal.returns-in_err-recipe
unfolding step_stage
returns-in_err-recipe g c =
    of_same_plan (steps (map (λ (word : Bor (List ℕ)). word.now) c.args.words.now) ∙ ap (λ read. or_usage read over_stage) (sym c.in-Some.ensures))
    (stops_holding c.from_residual.ensures.1 (ends_before c.in_err-recipe.ensures))

pub returns-in_err-inputs : goal.returns-in_err-inputs
unfolding step_stage
returns-in_err-inputs g c =
    of_same_plan (steps (map (λ (word : Bor (List ℕ)). word.now) c.args.words.now) ∙ ap (λ read. or_usage read over_stage) (sym c.in-Some.ensures))
    (stops_holding c.from_residual-in_err-inputs.ensures.1
    (goes_on_with c.in_ok-recipe.ensures
    (ends_before {next = λ (found : List (List ℕ) × List Finished). needs_session c.in_ok-recipe.recipe found.0 found.1 (λ session. talks (talk reply_to session 65_536))} c.in_err-inputs.ensures.obtained)))

pub returns : goal.returns
unfolding step_stage
returns g c =
    of_same_plan (steps (map (λ (word : Bor (List ℕ)). word.now) c.args.words.now) ∙ ap (λ read. or_usage read over_stage) (sym c.in-Some.ensures))
    (holds_with c.in_ok-recipe.ensures
    (holds_with {next = λ (found : List (List ℕ) × List Finished). needs_session c.in_ok-recipe.recipe found.0 found.1 (λ session. talks (talk reply_to session 65_536))} c.in_ok-inputs.ensures.obtained
    (c.talk.ensures _)))
