use Rattle.std.proofs.Common.{◌≡◌, ◌++◌, drop}
use Rattle.tool_commands.specs.ShownWords.{shown_each}
use Rattle.tool_commands.proofs.shown_words.shown_each.Given as goal

-- what is shown so far, and what is left, are the whole
abbrev pub invariant-loop-byte : goal.invariant-loop-byte
invariant-loop-byte l = l.shown ++ shown_each (drop l.byte-index l.word) ≡ shown_each l.word
