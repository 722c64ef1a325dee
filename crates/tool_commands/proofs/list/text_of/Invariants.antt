use Rattle.std.proofs.Common.{◌≡◌, ◌*◌, ◌++◌, drop}
use Rattle.tool_commands.specs.List.{listing}
use Rattle.tool_commands.proofs.list.text_of.Given as goal

abbrev pub invariant-loop-index : goal.invariant-loop-index
invariant-loop-index l = l.text ++ listing (4 * l.index) (drop (4 * l.index) l.bytes) ≡ listing 0 l.bytes
