use Rattle.std.proofs.Common.{◌≡◌, [], drop, length}
use Rattle.ddc_base.specs.Limits.{most_inputs}
use Rattle.command_plan.proofs.Gathering.{GoesOnAs}
use Rattle.verify_commands.specs.Chain.{chained}
use Rattle.verify_commands.proofs.chain.verify_each.Given as goal

-- so many audits are verified, and the plan goes on after them
abbrev pub invariant-loop-index : goal.invariant-loop-index
invariant-loop-index g l =
    GoesOnAs (chained [] most_inputs l.pairs) (chained l.links l.budget (drop l.index l.pairs)) (g.S.Shelf.state l.fn.shelf) (g.S.Shelf.state l.shelf)
    × (length l.links ≡ l.index)
