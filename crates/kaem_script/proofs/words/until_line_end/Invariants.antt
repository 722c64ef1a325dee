use Rattle.std.proofs.Common.{◌≡◌, ◌+◌, drop}
use Rattle.std.specs.List.{position_or_len}
use Rattle.kaem_script.specs.Script.{ends_line}
use Rattle.kaem_script.proofs.words.until_line_end.Given as goal

abbrev pub invariant-loop-index : goal.invariant-loop-index
invariant-loop-index l = position_or_len ends_line l.rest ≡ l.index + position_or_len ends_line (drop l.index l.rest)
