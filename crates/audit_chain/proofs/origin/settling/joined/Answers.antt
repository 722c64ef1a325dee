use Rattle.std.proofs.Common.{◌≤◌, ◌-◌, ◌∙◌, arith, drop, length, length-drop, take}
use Rattle.std.proofs.lemmas.List.{take_all}
use Rattle.verifier.proofs.Rightness.{joined-whole}
use Rattle.audit_chain.specs.Chain.{input_bytes}
use Rattle.audit_chain.specs.Settled.{given_audit}
use Rattle.audit_chain.proofs.origin.settling.joined.Goals as goal

pub returns : goal.returns
returns c =
    let files = c.args.files.now in
    let lengths = length-drop 1 files in
    let few : length (drop 1 files) ≤ length files - 1 = omega (arith, lengths) in
    joined-whole (input_bytes (given_audit c.args.audit.now.recipe.now c.args.audit.now.inputs.now)) files (take (length files - 1) (drop 1 files)) c.first-item.result
    c.loop-name.text c.in_ok-text.text c.loop-name.name-index (omega arith) (take_all (length files - 1) (drop 1 files) few) c.first-item.is
    (c.in_ok-text.ensures ∙ c.bytes_given.ensures) (omega arith) c.loop-name.invariant
