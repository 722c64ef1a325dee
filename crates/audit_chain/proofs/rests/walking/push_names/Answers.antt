use Rattle.std.proofs.Common.{◌++◌, ◌∷◌, [], ◌∙◌, ap, map, take, append_assoc}
use Rattle.audit_chain.specs.declared.rests.basis_part.BasisPart.TheVariants.{Reads}
use Rattle.audit_chain.proofs.RestsLemmas.Tests.{map_more}
use Rattle.audit_chain.proofs.rests.walking.push_names.Goals as goal

pub loop-name-preserved : goal.loop-name-preserved
loop-name-preserved c =
    let base = c.args.parts.now in
    let before = map Reads (take c.loop-name.name-index c.args.names.now) in
    c.in_ok-push.ensures.ok
    ∙ ap (λ n. c.loop-name.parts ++ Reads n ∷ []) c.copy.ensures
    ∙ ap (λ l. l ++ Reads c.name-item.result ∷ []) c.loop-name.invariant
    ∙ append_assoc base before (Reads c.name-item.result ∷ [])
    ∙ ap (λ l. base ++ l) (map_more Reads c.args.names.now c.loop-name.name-index c.name-item.result c.loop-name-test.true c.name-item.is)
