use Rattle.std.proofs.Common.{arith, ap, ◌∙◌, List, ◌∷◌}
use Rattle.m1_lang.specs.Words.Words.{Word, Words, word_list}
use Rattle.m1_lang.specs.Representation.Passes.{names_after}
use Rattle.m1_lang.proofs.Passing.{no-word, took-all, took-one}
use Rattle.m1_lang.proofs.definitions.take_name.Goals as goal

pub returns-in-Word-next_word : goal.returns-in-Word-next_word
returns-in-Word-next_word c =
    let name : Word = record { at = c.in-Word.field-0; text = c.in-Word.name.now } in
    let value : Word = record { at = c.in-Word-next_word.field-0; text = c.in-Word-next_word.field-1.now } in (
      λ seen took. took-one c.add.new.self c.args.source.now c.args.at c.in-Word-next_word.after c.in-Word.following seen name value
          c.in-Word.ensures.0 c.in-Word-next_word.ensures.0 (c.add.ensures seen took),
      omega (arith, c.in-Word.ensures.1, c.in-Word-next_word.ensures.1),
      c.in-Word-next_word.ensures.2,
    )

pub returns-in_default-next_word : goal.returns-in_default-next_word
returns-in_default-next_word c =
    let source = c.args.source.now in
    let none = no-word c.next_word-in-Word.result source c.in-Word.following c.next_word-in-Word.ensures c.in_default-next_word.not-Word in
    let after = ap (λ (w : Words). names_after (word_list w)) c.in-Word.ensures.0
    ∙ ap (λ (l : List Word). names_after (record { at = c.in-Word.field-0; text = c.in-Word.name.now } ∷ l)) none in
    (λ seen took. took-all c.args.names.now source seen _ after took, omega arith, omega arith)

pub returns-in_default : goal.returns-in_default
returns-in_default c =
    let source = c.args.source.now in
    let none = no-word c.next_word.result source c.args.at c.next_word.ensures c.in_default.not-Word in
    (λ seen took. took-all c.args.names.now source seen _ (ap names_after none) took, omega arith, omega arith)
