use Rattle.std.proofs.Common.{◌≡◌, [], take}
use Rattle.std.specs.FinMap as finite
use Rattle.verifier.proofs.context.box_of.Given as goal

abbrev pub invariant-loop-text : goal.invariant-loop-text
invariant-loop-text l = l.context ≡ record { args = take l.text-index l.stage.args; env = []; files = finite.empty; heap = l.stage.heap }

abbrev pub invariant-loop-variable : goal.invariant-loop-variable
invariant-loop-variable l =
    l.context ≡ record { args = l.stage.args; env = take l.variable-index l.stage.env; files = finite.empty; heap = l.stage.heap }
