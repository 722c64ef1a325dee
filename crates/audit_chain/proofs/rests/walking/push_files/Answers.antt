use Rattle.std.proofs.Common.{◌++◌, ◌∷◌, [], ◌∙◌, ap, map, take, append_assoc}
use Rattle.audit_chain.specs.declared.rests.basis_part.BasisPart.TheVariants.{Reads}
use Rattle.audit_chain.specs.Rests.Walk.{file_part}
use Rattle.audit_chain.proofs.RestsLemmas.Tests.{map_more}
use Rattle.audit_chain.proofs.rests.walking.push_files.Goals as goal

pub loop-file-preserved : goal.loop-file-preserved
loop-file-preserved c =
    let base = c.args.parts.now in
    let before = map file_part (take c.loop-file.file-index c.args.files.now) in
    c.in_ok-push.ensures.ok
    ∙ ap (λ n. c.loop-file.parts ++ Reads n ∷ []) c.copy.ensures
    ∙ ap (λ l. l ++ file_part c.file-item.result ∷ []) c.loop-file.invariant
    ∙ append_assoc base before (file_part c.file-item.result ∷ [])
    ∙ ap (λ l. base ++ l) (map_more file_part c.args.files.now c.loop-file.file-index c.file-item.result c.loop-file-test.true c.file-item.is)
