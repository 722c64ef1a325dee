use Rattle.std.proofs.Common.{arith, get_or, drop, ◌+◌, ◌∙◌}
use Rattle.std.proofs.lemmas.List.{at_drop_more}
use Rattle.m1_lang.specs.Words.Numbers.{more_digits}
use Rattle.m1_lang.specs.Words.Representation.Capped.{capped_value}
use Rattle.m1_lang.proofs.WordsLemmas.Capping.{digit-more}
use Rattle.m1_lang.proofs.words.numbers.digits_value.Goals as goal

pub loop-byte-preserved : goal.loop-byte-preserved
loop-byte-preserved c =
    let text = c.args.text.now in
    let remaining = drop (c.loop-byte.byte-index + 1) text in
    let turn = at_drop_more (λ l. capped_value (more_digits c.args.base c.loop-byte.value l)) text c.loop-byte.byte-index 0 (omega arith) in
    let more = digit-more c.args.base c.loop-byte.value c.in-Some.digit c.min-value.result (get_or text c.loop-byte.byte-index 0) remaining c.requires.low c.in-Some.ensures c.min-value.ensures in
    record { whole = c.loop-byte.invariant.whole ∙ turn ∙ more; few = omega (arith, c.min-value.ensures) }
