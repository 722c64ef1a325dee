use Rattle.std.proofs.Common.{◌∙◌, ap, sym, arith, length}
use Rattle.hex_langs.specs.Items.Reading.{formed, Reading, with_prefix, word_end}
use Rattle.m1_lang.specs.declared.words.meaning.WordFault.{WordFault}
use Rattle.m1_lang.specs.Words.Words.{Word, word_list}
use Rattle.m1_lang.specs.Expansion.{items_unless_refused}
use Rattle.m1_lang.specs.Representation.Passes.{reading_at, values_in}
use Rattle.m1_lang.proofs.Passing.{no-word, words-end}
use Rattle.m1_lang.proofs.Expandings.{reading-define, reading-done, reading-over, reading-word, refused-word}
use Rattle.m1_lang.proofs.expansion.items_by.Goals as goal

pub loop-at-preserved-then-is_define : goal.loop-at-preserved-then-is_define
loop-at-preserved-then-is_define c =
    let values = values_in c.args.table.now in
    let word : Word = record { at = c.in-Word.start; text = c.in-Word.text.now } in
    let step = reading-define values c.args.source.now c.loop-at.at c.in-Word.after c.after_definition-at.result word c.in-Word.ensures.0 (sym c.if-is_define.ensures)
    c.after_definition-at.ensures.0 in
    record {
      whole = c.loop-at.invariant.whole ∙ ap (λ (r : Reading WordFault). with_prefix c.loop-at.items (formed c.loop-at.word r)) step;
      few = c.loop-at.invariant.few;
      within = c.after_definition-at.ensures.2;
    }

pub loop-at-preserved-in-Ok : goal.loop-at-preserved-in-Ok
loop-at-preserved-in-Ok c =
    let values = values_in c.args.table.now in
    let word : Word = record { at = c.in-Word.start; text = c.in-Word.text.now } in
    let step = reading-word values c.args.source.now c.loop-at.at c.in-Word.after word c.in-Word.ensures.0 (sym c.if-is_define.ensures) in
    record {
      whole = c.loop-at.invariant.whole ∙ ap (λ (r : Reading WordFault). with_prefix c.loop-at.items (formed c.loop-at.word r)) step
          ∙ c.in-Ok.ensures.takes (reading_at values c.args.source.now c.in-Word.after);
      few = c.in-Ok.ensures.few;
      within = c.in-Word.ensures.2;
    }

pub returns-in-Err : goal.returns-in-Err
returns-in-Err c =
    let values = values_in c.args.table.now in
    let word : Word = record { at = c.in-Word.start; text = c.in-Word.text.now } in
    let step = reading-word values c.args.source.now c.loop-at.at c.in-Word.after word c.in-Word.ensures.0 (sym c.if-is_define.ensures) in
    refused-word c.in-Err.why values c.loop-at.word c.in-Word.start c.in-Word.text.now c.loop-at.items c.take_word.new.items (reading_at values c.args.source.now c.in-Word.after) _
    (c.loop-at.invariant.whole ∙ ap (λ (r : Reading WordFault). with_prefix c.loop-at.items (formed c.loop-at.word r)) step) c.in-Err.ensures.takes

pub loop-at-preserved : goal.loop-at-preserved
loop-at-preserved c =
    let values = values_in c.args.table.now in
    let source = c.args.source.now in
    let none = no-word c.next_word.result source c.loop-at.at c.next_word.ensures c.in_default.not-Word in
    let step = reading-over values source c.loop-at.at none ∙ sym (reading-over values source (length source) (ap word_list (words-end source (length source) (omega arith)))) in
    record {
      whole = c.loop-at.invariant.whole ∙ ap (λ (r : Reading WordFault). with_prefix c.loop-at.items (formed c.loop-at.word r)) step;
      few = c.loop-at.invariant.few;
      within = omega arith;
    }

pub returns-in-None : goal.returns-in-None
returns-in-None c =
    let values = values_in c.args.table.now in
    reading-done values c.args.source.now c.loop-at.at c.loop-at.word c.loop-at.items _ (omega arith) c.loop-at.invariant.few c.loop-at.invariant.whole
    ∙ ap (λ word. items_unless_refused c.loop-at.items (word_end word)) c.in-None.is

pub returns : goal.returns
returns c =
    let values = values_in c.args.table.now in
    reading-done values c.args.source.now c.loop-at.at c.loop-at.word c.loop-at.items _ (omega arith) c.loop-at.invariant.few c.loop-at.invariant.whole
    ∙ ap (λ word. items_unless_refused c.loop-at.items (word_end word)) c.in-Some.is
