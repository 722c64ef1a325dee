use Rattle.std.proofs.Common.{ℕ, List, map}
use Rattle.std.specs.Borrow.{Bor}
use Rattle.command_plan.proofs.Obtaining.{ends_before, ends_with, goes_on_with, on_words}
use Rattle.command_plan.proofs.Performing.{says, wants_memory}
use Rattle.tool_commands.proofs.Worded.{asms, over_asm}
use Rattle.tool_commands.specs.Asm.{asm_files}
use Rattle.tool_commands.proofs.asm.perform.Goals as goal

pub returns-in_default : goal.returns-in_default
returns-in_default g c = on_words over_asm (asms (map (λ (word : Bor (List ℕ)). word.now) c.args.words.now)) c.in_default.ensures (says _ _ _ c.usage.ensures)

pub returns-in_err-text : goal.returns-in_err-text
unfolding asm_files
returns-in_err-text g c =
    on_words over_asm (asms (map (λ (word : Bor (List ℕ)). word.now) c.args.words.now)) c.in-Some.ensures
    (ends_with c.from_residual.ensures.1 (ends_before c.in_err-text.ensures.obtained))

pub returns-in_err-made : goal.returns-in_err-made
unfolding asm_files
returns-in_err-made g c =
    on_words over_asm (asms (map (λ (word : Bor (List ℕ)). word.now) c.args.words.now)) c.in-Some.ensures
    (ends_with c.from_residual-in_err-made.ensures.1
    (goes_on_with c.in_ok-text.ensures.obtained (ends_before ((rw (c.as_slice.ensures, c.address.ensures.value) at c.in_err-made.ensures) _))))

pub returns-in_err-made_text : goal.returns-in_err-made_text
unfolding asm_files
returns-in_err-made_text g c =
    on_words over_asm (asms (map (λ (word : Bor (List ℕ)). word.now) c.args.words.now)) c.in-Some.ensures
    (ends_with c.from_residual-in_err-made_text.ensures.1
    (goes_on_with c.in_ok-text.ensures.obtained (goes_on_with ((rw (c.as_slice.ensures, c.address.ensures.value) at c.in_ok-made.ensures) _) (wants_memory _ _))))

pub returns : goal.returns
unfolding asm_files
returns g c =
    on_words over_asm (asms (map (λ (word : Bor (List ℕ)). word.now) c.args.words.now)) c.in-Some.ensures
    (goes_on_with c.in_ok-text.ensures.obtained (goes_on_with ((rw (c.as_slice.ensures, c.address.ensures.value) at c.in_ok-made.ensures) _)
    (rw (c.as_slice-2.ensures, c.in_ok-made_text.ensures, c.len.ensures) at c.keep.ensures)))
