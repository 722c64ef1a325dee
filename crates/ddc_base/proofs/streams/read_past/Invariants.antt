use Rattle.std.proofs.Common.{◌+◌, ◌≤◌, length}
use Rattle.std.specs.Io.KnownBytes.{Consumes}
use Rattle.ddc_base.proofs.streams.read_past.Given as goal

-- what was read stands in front of what is left, and is at most one byte more than the limit
abbrev pub invariant-loop : goal.invariant-loop
invariant-loop g l = record {
  given : Consumes (g.R.Read.remaining l.fn.reader) (g.R.Read.remaining l.reader) l.content.items;
  few : length l.content.items ≤ l.limit + 1;
}
