use Rattle.std.proofs.Common.{ℕ, List, map}
use Rattle.std.specs.Borrow.{Bor}
use Rattle.command_plan.proofs.Obtaining.{ends_before, ends_with, goes_on_with, on_words}
use Rattle.command_plan.proofs.Performing.{says, wants_memory}
use Rattle.tool_commands.proofs.Worded.{runs, over_run}
use Rattle.tool_commands.specs.RunProgram.{run_file}
use Rattle.tool_commands.proofs.run.perform.Goals as goal

pub returns-in_default : goal.returns-in_default
returns-in_default g c = on_words over_run (runs (map (λ (word : Bor (List ℕ)). word.now) c.args.words.now)) c.in_default.ensures (says _ _ _ c.usage.ensures)

pub returns-in_err-program : goal.returns-in_err-program
unfolding run_file
returns-in_err-program g c =
    on_words over_run (runs (map (λ (word : Bor (List ℕ)). word.now) c.args.words.now)) c.in-Some.ensures
    (ends_with c.from_residual.ensures.1 (ends_before c.in_err-program.ensures.obtained))

pub returns-in_err-setting : goal.returns-in_err-setting
unfolding run_file
returns-in_err-setting g c =
    on_words over_run (runs (map (λ (word : Bor (List ℕ)). word.now) c.args.words.now)) c.in-Some.ensures
    (ends_with c.from_residual-in_err-setting.ensures.1 (goes_on_with c.in_ok-program.ensures.obtained (wants_memory _ _)))

pub returns : goal.returns
unfolding run_file
returns g c =
    on_words over_run (runs (map (λ (word : Bor (List ℕ)). word.now) c.args.words.now)) c.in-Some.ensures
    (goes_on_with c.in_ok-program.ensures.obtained (says _ _ _ (rw (c.as_slice.ensures, c.in_ok-setting.ensures, c.count.ensures.value) at c.start.ensures)))
