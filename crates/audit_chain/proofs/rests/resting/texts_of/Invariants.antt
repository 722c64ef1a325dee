use Rattle.std.proofs.Common.{◌≡◌, take, filter_map}
use Rattle.audit_chain.specs.Rests.Basis.{text_name}
use Rattle.audit_chain.proofs.rests.resting.texts_of.Given as goal

abbrev pub invariant-loop-input : goal.invariant-loop-input
invariant-loop-input l = l.names ≡ filter_map (text_name l.parts) (take l.input-index l.recipe.inputs)
