use Rattle.std.proofs.Common.{ℕ, List, map}
use Rattle.std.specs.Borrow.{Bor}
use Rattle.command_plan.proofs.Obtaining.{ends_before, ends_with, goes_on_with}
use Rattle.command_plan.proofs.Performing.{says}
use Rattle.verify_commands.specs.Verify.{judge_files}
use Rattle.verify_commands.proofs.Worded.{on_judged}
use Rattle.verify_commands.proofs.verify.perform.Goals as goal

pub returns-in_default : goal.returns-in_default
returns-in_default g c =
    on_judged c.args.explanation (map (λ (word : Bor (List ℕ)). word.now) c.args.words.now) c.in_default.ensures (says _ _ _ c.usage.ensures)

pub returns-in_err-recipe : goal.returns-in_err-recipe
unfolding judge_files
returns-in_err-recipe g c =
    ends_with c.from_residual.ensures.1
    (on_judged c.args.explanation (map (λ (word : Bor (List ℕ)). word.now) c.args.words.now) c.in-Some.ensures
    (ends_before c.in_err-recipe.ensures))

pub returns-in_err-apart : goal.returns-in_err-apart
unfolding judge_files
returns-in_err-apart g c =
    ends_with c.from_residual-in_err-apart.ensures.1
    (on_judged c.args.explanation (map (λ (word : Bor (List ℕ)). word.now) c.args.words.now) c.in-Some.ensures
    (goes_on_with c.in_ok-recipe.ensures (ends_before (c.in_err-apart.ensures _))))

pub returns-in_err-report : goal.returns-in_err-report
unfolding judge_files
returns-in_err-report g c =
    ends_with c.from_residual-in_err-report.ensures.1
    (on_judged c.args.explanation (map (λ (word : Bor (List ℕ)). word.now) c.args.words.now) c.in-Some.ensures
    (goes_on_with c.in_ok-recipe.ensures (goes_on_with (c.in_ok-apart.ensures _) (ends_before c.in_err-report.ensures.obtained))))

pub returns-in_err-inputs : goal.returns-in_err-inputs
unfolding judge_files
returns-in_err-inputs g c =
    ends_with c.from_residual-in_err-inputs.ensures.1
    (on_judged c.args.explanation (map (λ (word : Bor (List ℕ)). word.now) c.args.words.now) c.in-Some.ensures
    (goes_on_with c.in_ok-recipe.ensures (goes_on_with (c.in_ok-apart.ensures _)
    (goes_on_with c.in_ok-report.ensures.obtained (ends_before c.in_err-inputs.ensures.obtained)))))

pub returns : goal.returns
unfolding judge_files
returns g c =
    on_judged c.args.explanation (map (λ (word : Bor (List ℕ)). word.now) c.args.words.now) c.in-Some.ensures
    (goes_on_with c.in_ok-recipe.ensures (goes_on_with (c.in_ok-apart.ensures _)
    (goes_on_with c.in_ok-report.ensures.obtained (goes_on_with c.in_ok-inputs.ensures.obtained (says _ _ _ c.answer.ensures)))))
