use Rattle.std.proofs.Common.{refl}
use Rattle.command_plan.proofs.Obtaining.{ends_before, ends_with, goes_on_with, on_words}
use Rattle.command_plan.proofs.Performing.{says}
use Rattle.tool_commands.specs.Where.{where_file}
use Rattle.tool_commands.proofs.refusal_offset.perform.Goals as goal

pub returns-in_default : goal.returns-in_default
returns-in_default g c = on_words where_file refl c.in_default.ensures (says _ _ _ c.usage.ensures)

pub returns-in_err-text : goal.returns-in_err-text
returns-in_err-text g c =
    on_words where_file refl c.in-Some.ensures
    (ends_with c.from_residual.ensures.1 (ends_before c.in_err-text.ensures.obtained))

pub returns : goal.returns
returns g c =
    on_words where_file refl c.in-Some.ensures
    (goes_on_with c.in_ok-text.ensures.obtained (says _ _ _ (rw c.as_slice.ensures at c.say.ensures)))
