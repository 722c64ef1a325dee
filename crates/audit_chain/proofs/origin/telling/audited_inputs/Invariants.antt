use Rattle.std.proofs.Common.{◌≡◌, take, filter_map}
use Rattle.audit_chain.specs.Provenance.{audited_input}
use Rattle.audit_chain.proofs.origin.telling.audited_inputs.Given as goal

abbrev pub invariant-loop-input : goal.invariant-loop-input
invariant-loop-input l = l.names ≡ filter_map (audited_input l.audit.recipe.now l.audit.report.now l.how l.parts l.own) (take l.input-index l.audit.recipe.now.inputs)
