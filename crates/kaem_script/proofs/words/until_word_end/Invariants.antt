use Rattle.std.proofs.Common.{◌≡◌, ◌+◌, drop}
use Rattle.std.specs.List.{position_or_len}
use Rattle.kaem_script.specs.Script.{ends_word}
use Rattle.kaem_script.proofs.words.until_word_end.Given as goal

abbrev pub invariant-loop-index : goal.invariant-loop-index
invariant-loop-index l = position_or_len ends_word l.rest ≡ l.index + position_or_len ends_word (drop l.index l.rest)
