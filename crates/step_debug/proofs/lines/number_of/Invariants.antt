use Rattle.std.proofs.Common.{◌≡◌, drop}
use Rattle.step_debug.specs.Lines.{number_from}
use Rattle.step_debug.proofs.lines.number_of.Given as goal

-- the digits that are left, after the number so far
abbrev pub invariant-loop-byte : goal.invariant-loop-byte
invariant-loop-byte l = number_from l.value (drop l.byte-index l.fn.text) ≡ number_from 0 l.fn.text
