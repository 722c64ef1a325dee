use Rattle.std.proofs.Common.{ℕ, List, map}
use Rattle.std.specs.Borrow.{Bor}
use Rattle.command_plan.proofs.Obtaining.{ends_before, ends_with, goes_on_with, on_words}
use Rattle.command_plan.proofs.Performing.{says}
use Rattle.tool_commands.specs.List.{list_file}
use Rattle.tool_commands.proofs.Worded.{lists}
use Rattle.tool_commands.proofs.list.perform.Goals as goal

pub returns-in_default : goal.returns-in_default
returns-in_default g c = on_words list_file (lists (map (λ (word : Bor (List ℕ)). word.now) c.args.words.now)) c.in_default.ensures (says _ _ _ c.usage.ensures)

pub returns-in_err-bytes : goal.returns-in_err-bytes
unfolding list_file
returns-in_err-bytes g c =
    on_words list_file (lists (map (λ (word : Bor (List ℕ)). word.now) c.args.words.now)) c.in-Some.ensures
    (ends_with c.from_residual.ensures.1 (ends_before c.in_err-bytes.ensures.obtained))

pub returns : goal.returns
unfolding list_file
returns g c =
    on_words list_file (lists (map (λ (word : Bor (List ℕ)). word.now) c.args.words.now)) c.in-Some.ensures
    (goes_on_with c.in_ok-bytes.ensures.obtained (says _ _ _ (rw c.as_slice.ensures at c.listed.ensures)))
