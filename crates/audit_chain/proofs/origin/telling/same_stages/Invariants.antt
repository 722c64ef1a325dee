use Rattle.std.proofs.Common.{◌≡◌, take, filter_map}
use Rattle.audit_chain.specs.Provenance.{audited_stage}
use Rattle.audit_chain.proofs.origin.telling.same_stages.Given as goal

abbrev pub invariant-loop-stage : goal.invariant-loop-stage
invariant-loop-stage l = l.names ≡ filter_map (audited_stage l.audit.recipe.now l.audit.report.now l.how l.parts l.own) (take l.stage-index l.audit.recipe.now.stages)
