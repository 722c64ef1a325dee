use Rattle.std.proofs.Common.{ℕ, List, map}
use Rattle.std.specs.Borrow.{Bor}
use Rattle.command_plan.proofs.Obtaining.{ends_before, ends_with, goes_on_with, on_words}
use Rattle.command_plan.proofs.Performing.{says}
use Rattle.tool_commands.proofs.Worded.{hex0s, over_hex0}
use Rattle.tool_commands.specs.Hex0.{hex0_files}
use Rattle.tool_commands.proofs.hex0.perform.Goals as goal

pub returns-in_default : goal.returns-in_default
returns-in_default g c = on_words over_hex0 (hex0s (map (λ (word : Bor (List ℕ)). word.now) c.args.words.now)) c.in_default.ensures (says _ _ _ c.usage.ensures)

pub returns-in_err-text : goal.returns-in_err-text
unfolding hex0_files
returns-in_err-text g c =
    on_words over_hex0 (hex0s (map (λ (word : Bor (List ℕ)). word.now) c.args.words.now)) c.in-Some.ensures
    (ends_with c.from_residual.ensures.1 (ends_before c.in_err-text.ensures.obtained))

pub returns-in_err-bytes : goal.returns-in_err-bytes
unfolding hex0_files
returns-in_err-bytes g c =
    on_words over_hex0 (hex0s (map (λ (word : Bor (List ℕ)). word.now) c.args.words.now)) c.in-Some.ensures
    (ends_with c.from_residual-in_err-bytes.ensures.1 (goes_on_with c.in_ok-text.ensures.obtained (ends_before c.in_err-bytes.ensures.obtained)))

pub returns : goal.returns
unfolding hex0_files
returns g c =
    on_words over_hex0 (hex0s (map (λ (word : Bor (List ℕ)). word.now) c.args.words.now)) c.in-Some.ensures
    (goes_on_with c.in_ok-text.ensures.obtained
    (goes_on_with c.in_ok-bytes.ensures.obtained (says _ _ _ (rw (c.as_slice.ensures, c.as_slice-2.ensures) at c.compare.ensures))))
