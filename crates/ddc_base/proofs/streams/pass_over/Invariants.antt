use Rattle.std.proofs.Common.{◌*◌}
use Rattle.ddc_base.specs.Inside.Passing.{PassesOver}
use Rattle.ddc_base.proofs.streams.pass_over.Given as goal

-- a block in each turn
abbrev pub invariant-loop : goal.invariant-loop
invariant-loop g l = PassesOver (g.R.Read.remaining l.fn.reader) (g.R.Read.remaining l.reader) (4096 * l.counter)
