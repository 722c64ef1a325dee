use Rattle.std.proofs.Common.{◌≡◌, ◌+◌, ◌≤◌, take}
use Rattle.tool_commands.specs.Offsets.{spot_after}
use Rattle.tool_commands.proofs.offsets.spot_after.Given as goal

abbrev pub invariant-loop-byte : goal.invariant-loop-byte
invariant-loop-byte l = record {
  is : l.spot ≡ spot_after (take l.byte-index l.prefix);
  line : l.spot.line ≤ l.byte-index + 1;
  column : l.spot.column ≤ l.byte-index + 1;
}
