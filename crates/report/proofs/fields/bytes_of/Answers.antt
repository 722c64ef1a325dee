use Rattle.std.proofs.Common.{◌<◌, ◌∙◌, arith, sym}
use Rattle.std.proofs.lemmas.Grind.{same_number_lists}
use Rattle.report.specs.Inside.Fields.{pairs_of}
use Rattle.report.proofs.Hexes.{pair_at, length-pairs_of}
use Rattle.report.proofs.fields.bytes_of.Goals as goal

pub returns : goal.returns
returns c =
    let bytes = c.loop-index.byte-items in
    let word = c.args.word.now in
    same_number_lists bytes (pairs_of word) (omega (arith, c.loop-index-test.array_long, length-pairs_of word, c.requires.count))
    (λ k below. (
    let here : k < c.loop-index.index = omega (arith, c.loop-index-test.array_long, c.loop-index-test.false) in
    c.loop-index.invariant k here ∙ sym (pair_at word k (omega (arith, c.loop-index-test.array_long, c.requires.count)))))
