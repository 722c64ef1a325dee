use Rattle.std.proofs.Common.{◌≤◌, ◌-◌, ◌∙◌, arith, ap, drop, length, length-drop, map, take}
use Rattle.std.specs.List.{join_with_byte}
use Rattle.std.proofs.lemmas.List.{take_all}
use Rattle.audit_rules.specs.Contents.{content, text_of}
use Rattle.verifier.specs.Inside.Holdings.{so_far}
use Rattle.verifier.proofs.Rightness.{joined-whole}
use Rattle.verifier.proofs.checking.joined.Goals as goal

pub returns : goal.returns
unfolding text_of
returns c =
    let files = c.as_slice.result.now in
    let lengths = length-drop 1 files in
    let few : length (drop 1 files) ≤ length files - 1 = omega (arith, lengths) in
    joined-whole (content c.args.held.now.recipe.now (so_far c.args.held.now)) files (take (length files - 1) (drop 1 files)) c.first-item.result c.loop-name.text c.in_ok-text.text
    c.loop-name.name-index (omega arith) (take_all (length files - 1) (drop 1 files) few) c.first-item.is (c.in_ok-text.ensures ∙ c.bytes.ensures) (omega arith) c.loop-name.invariant
    ∙ ap (λ shown. join_with_byte 10 (map (content c.args.held.now.recipe.now (so_far c.args.held.now)) shown)) c.as_slice.ensures
