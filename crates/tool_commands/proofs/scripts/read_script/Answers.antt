use Rattle.command_plan.proofs.Obtaining.{reads, refuses, stops_with, wants_as, wants_at_once}
use Rattle.std.proofs.Common.{refl}
use Rattle.tool_commands.specs.Scripts.{script_of}
use Rattle.tool_commands.proofs.ScriptEnds.{refuse_script, script-fault, script-parsed}
use Rattle.tool_commands.proofs.scripts.read_script.Goals as goal

pub returns-in-Ok : goal.returns-in-Ok
returns-in-Ok c = λ shelf.
    let is = rw c.as_slice.ensures at c.in-Ok.ensures in
    reads (script_of c.args.text) refuse_script (λ parsed. parsed) shelf c.in-Ok.script c.in-Ok.script (script-parsed c.args.text c.in-Ok.script is.0 is.1) refl

pub returns-in_err-script_refused-in-Err-At : goal.returns-in_err-script_refused-in-Err-At
returns-in_err-script_refused-in-Err-At c = λ shelf. stops_with c.from_residual.ensures.1 (wants_as _ shelf _ c.in_err-script_refused-in-Err-At.ensures.by_result)

pub returns-in-Err-At : goal.returns-in-Err-At
returns-in-Err-At c = λ shelf.
    refuses (script_of c.args.text) refuse_script (λ parsed. parsed) shelf (c.in-Err-At.fault, c.in-Err-At.offset) c.in_ok-script_refused-in-Err-At.field-0
    (script-fault c.args.text c.in-Err-At.fault c.in-Err-At.offset (rw (c.in-Err-At.field-0-is, c.as_slice.ensures) at c.in-Err-At.ensures)) c.in_ok-script_refused-in-Err-At.ensures.by_result

pub returns : goal.returns
returns c = λ shelf. wants_at_once _ shelf
