use Rattle.std.proofs.Common.{ℕ, List, map}
use Rattle.std.specs.Borrow.{Bor}
use Rattle.command_plan.proofs.Obtaining.{ends_before, ends_with, goes_on_with, on_words}
use Rattle.command_plan.proofs.Performing.{says}
use Rattle.audit_commands.specs.Show.{show_file}
use Rattle.audit_commands.proofs.Worded.{shows}
use Rattle.audit_commands.proofs.show.perform.Goals as goal

pub returns-in_default : goal.returns-in_default
returns-in_default g c = on_words show_file (shows (map (λ (word : Bor (List ℕ)). word.now) c.args.words.now)) c.in_default.ensures (says _ _ _ c.usage.ensures)

pub returns-in_err-report : goal.returns-in_err-report
unfolding show_file
returns-in_err-report g c =
    on_words show_file (shows (map (λ (word : Bor (List ℕ)). word.now) c.args.words.now)) c.in-Some.ensures
    (ends_with c.from_residual.ensures.1 (ends_before c.in_err-report.ensures.obtained))

pub returns : goal.returns
unfolding show_file
returns g c =
    on_words show_file (shows (map (λ (word : Bor (List ℕ)). word.now) c.args.words.now)) c.in-Some.ensures
    (goes_on_with c.in_ok-report.ensures.obtained (says _ _ _ c.shown.ensures))
