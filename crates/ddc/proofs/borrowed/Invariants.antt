use Rattle.std.proofs.Common.{◌≡◌, IfOk, drop, map, string_bytes, ℕ, ◌+◌, ◌-◌, ◌*◌, ◌<◌, ◌≤◌, length, take}
use Rattle.std.specs.Process as process
use Rattle.command_plan.specs.Answered.{exit_status}
use Rattle.ddc.specs.Ends.{word_bytes}
use Rattle.ddc.proofs.borrowed.Given as goal

abbrev pub invariant-loop-word : goal.invariant-loop-word
invariant-loop-word l = word_bytes l.words.items ≡ map string_bytes (take l.word-index l.owned)
