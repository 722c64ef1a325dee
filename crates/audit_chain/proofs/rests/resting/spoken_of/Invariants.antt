use Rattle.std.proofs.Common.{◌≡◌, take, filter_map}
use Rattle.audit_chain.specs.Rests.Basis.{spoken_name}
use Rattle.audit_chain.proofs.rests.resting.spoken_of.Given as goal

abbrev pub invariant-loop-stage : goal.invariant-loop-stage
invariant-loop-stage l = l.names ≡ filter_map (spoken_name l.recipe l.lines) (take l.stage-index l.recipe.stages)
