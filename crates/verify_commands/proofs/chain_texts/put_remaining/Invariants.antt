use Rattle.std.proofs.Common.{◌≡◌, ◌++◌, take}
use Rattle.std.specs.List.{flat_map}
use Rattle.verify_commands.specs.ChainTexts.{remaining_line}
use Rattle.verify_commands.proofs.chain_texts.put_remaining.Given as goal

abbrev pub invariant-loop-line : goal.invariant-loop-line
invariant-loop-line l = l.text ≡ l.fn.text ++ flat_map remaining_line (take l.line-index l.lines)
