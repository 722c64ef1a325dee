use Rattle.std.proofs.Common.{◌≡◌, ◌∷◌, ◌++◌, take}
use Rattle.std.specs.List.{flat_map}
use Rattle.audit_chain.specs.Chain.{input_bytes}
use Rattle.audit_chain.specs.Settled.{given_audit}
use Rattle.audit_chain.proofs.origin.settling.joined.Given as goal

abbrev pub invariant-loop-name : goal.invariant-loop-name
invariant-loop-name l =
    l.text ≡ l.initial.text ++ flat_map (λ name. 10 ∷ input_bytes (given_audit l.audit.recipe.now l.audit.inputs.now) name) (take l.name-index l.others)
