use Rattle.std.proofs.Common.{◌≡◌, take}
use Rattle.tool_commands.proofs.ScriptEnds.{steps_in}
use Rattle.tool_commands.proofs.kaem.steps_in_all.Given as goal

abbrev pub invariant-loop-command : goal.invariant-loop-command
invariant-loop-command l = l.steps ≡ steps_in (take l.command-index l.commands)
