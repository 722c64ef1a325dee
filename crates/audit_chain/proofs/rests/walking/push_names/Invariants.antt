use Rattle.std.proofs.Common.{◌≡◌, ◌++◌, map, take}
use Rattle.audit_chain.specs.declared.rests.basis_part.BasisPart.TheVariants.{Reads}
use Rattle.audit_chain.proofs.rests.walking.push_names.Given as goal

abbrev pub invariant-loop-name : goal.invariant-loop-name
invariant-loop-name l = l.parts ≡ l.fn.parts ++ map Reads (take l.name-index l.names)
