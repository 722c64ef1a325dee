use Rattle.std.proofs.Common.{◌≡◌, take, filter_map}
use Rattle.audit_chain.specs.Rests.Basis.{own_layout_name}
use Rattle.audit_chain.proofs.rests.resting.own_layout_of.Given as goal

abbrev pub invariant-loop-stage : goal.invariant-loop-stage
invariant-loop-stage l = l.names ≡ filter_map (own_layout_name l.recipe l.own) (take l.stage-index l.recipe.stages)
