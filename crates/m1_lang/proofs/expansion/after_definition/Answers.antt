use Rattle.std.proofs.Common.{◌∙◌, ap, sym, List, ◌∷◌, arith}
use Rattle.m1_lang.specs.Words.Words.{Word, Words, word_list}
use Rattle.m1_lang.specs.Representation.Passes.{plain_after}
use Rattle.m1_lang.proofs.Passing.{nothing-remaining, no-word}
use Rattle.m1_lang.proofs.expansion.after_definition.Goals as goal

pub returns-in_default-next_word : goal.returns-in_default-next_word
returns-in_default-next_word c =
    let source = c.args.source.now in
    let none = no-word c.next_word-in-Word.result source c.in-Word.following c.next_word-in-Word.ensures c.in_default-next_word.not-Word in (
      ap (λ (w : Words). plain_after (word_list w)) c.in-Word.ensures.0 ∙ ap (λ (l : List Word). plain_after (record { at = c.in-Word.field-0; text = c.in-Word.field-1.now } ∷ l)) none ∙ sym (nothing-remaining source),
      omega arith,
      omega arith,
    )

pub returns-in_default : goal.returns-in_default
returns-in_default c =
    let source = c.args.source.now in
    let none = no-word c.next_word.result source c.args.at c.next_word.ensures c.in_default.not-Word in
    (ap plain_after none ∙ sym (nothing-remaining source), omega arith, omega arith)
