use Rattle.std.proofs.Common.{◌≡◌, ◌-◌, ◌≤◌, length, drop}
use Rattle.kaem_script.specs.Script.{commands_from, commands_of}
use Rattle.kaem_script.proofs.reading.read.Given as goal

abbrev pub decreases-loop-at : goal.decreases-loop-at
decreases-loop-at l = length l.script - l.at

abbrev pub invariant-loop-at : goal.invariant-loop-at
invariant-loop-at l = (l.at ≤ length l.script) × (commands_from l.at 0 l.commands l.words (drop l.at l.script) ≡ commands_of l.fn.script)
