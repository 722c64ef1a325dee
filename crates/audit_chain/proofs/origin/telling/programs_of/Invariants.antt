use Rattle.std.proofs.Common.{◌≡◌, take, filter_map}
use Rattle.audit_chain.specs.Provenance.{run_input_name}
use Rattle.audit_chain.proofs.origin.telling.programs_of.Given as goal

abbrev pub invariant-loop-input : goal.invariant-loop-input
invariant-loop-input l = l.names ≡ filter_map (run_input_name l.parts) (take l.input-index l.recipe.inputs)
