use Rattle.std.proofs.Common.{ℕ, List, map}
use Rattle.std.specs.Borrow.{Bor}
use Rattle.command_plan.proofs.Obtaining.{ends_before, ends_with, goes_on_with, on_words}
use Rattle.command_plan.proofs.Performing.{says}
use Rattle.tool_commands.proofs.Worded.{kaem_verifies, over_script}
use Rattle.tool_commands.specs.KaemVerify.{kaem_verify_files}
use Rattle.tool_commands.proofs.kaem_verify.perform.Goals as goal

pub returns-in_default : goal.returns-in_default
returns-in_default g c = on_words over_script (kaem_verifies (map (λ (word : Bor (List ℕ)). word.now) c.args.words.now)) c.in_default.ensures (says _ _ _ c.usage.ensures)

pub returns-in_err-script : goal.returns-in_err-script
unfolding kaem_verify_files
returns-in_err-script g c =
    on_words over_script (kaem_verifies (map (λ (word : Bor (List ℕ)). word.now) c.args.words.now)) c.in-Some.ensures
    (ends_with c.from_residual.ensures.1 (ends_before c.in_err-script.ensures))

pub returns-in_err-names : goal.returns-in_err-names
unfolding kaem_verify_files
returns-in_err-names g c =
    on_words over_script (kaem_verifies (map (λ (word : Bor (List ℕ)). word.now) c.args.words.now)) c.in-Some.ensures
    (ends_with c.from_residual-in_err-names.ensures.1 (goes_on_with c.in_ok-script.ensures (ends_before c.in_err-names.ensures.obtained)))

pub returns-in_err-report : goal.returns-in_err-report
unfolding kaem_verify_files
returns-in_err-report g c =
    on_words over_script (kaem_verifies (map (λ (word : Bor (List ℕ)). word.now) c.args.words.now)) c.in-Some.ensures
    (ends_with c.from_residual-in_err-report.ensures.1
    (goes_on_with c.in_ok-script.ensures (goes_on_with c.in_ok-names.ensures.obtained (ends_before c.in_err-report.ensures))))

pub returns-in_err-files : goal.returns-in_err-files
unfolding kaem_verify_files
returns-in_err-files g c =
    on_words over_script (kaem_verifies (map (λ (word : Bor (List ℕ)). word.now) c.args.words.now)) c.in-Some.ensures
    (ends_with c.from_residual-in_err-files.ensures.1
    (goes_on_with c.in_ok-script.ensures (goes_on_with c.in_ok-names.ensures.obtained (goes_on_with c.in_ok-report.ensures (ends_before c.in_err-files.ensures)))))

pub returns : goal.returns
unfolding kaem_verify_files
returns g c =
    on_words over_script (kaem_verifies (map (λ (word : Bor (List ℕ)). word.now) c.args.words.now)) c.in-Some.ensures
    (goes_on_with c.in_ok-script.ensures (goes_on_with c.in_ok-names.ensures.obtained
    (goes_on_with c.in_ok-report.ensures (goes_on_with c.in_ok-files.ensures (says _ _ _ c.judge.ensures)))))
