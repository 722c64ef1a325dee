use Rattle.std.proofs.Common.{◌≡◌, take, filter_map}
use Rattle.audit_chain.specs.Rests.Basis.{ran_name}
use Rattle.audit_chain.proofs.rests.resting.ran_of.Given as goal

abbrev pub invariant-loop-stage : goal.invariant-loop-stage
invariant-loop-stage l = l.names ≡ filter_map (ran_name l.parts) (take l.stage-index l.recipe.stages)
