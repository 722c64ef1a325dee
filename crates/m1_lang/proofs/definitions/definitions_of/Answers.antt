use Rattle.std.proofs.Common.{arith, ap, sym, ◌∙◌}
use Rattle.ddc_base.specs.declared.name_tables.NamesKey.{NamesKey}
use Rattle.m1_lang.specs.Words.Words.{open_quote, NoWord, Word, word_list, Words}
use Rattle.m1_lang.specs.Words.Ahead.{words_at}
use Rattle.m1_lang.specs.Definitions.{parts}
use Rattle.m1_lang.specs.Representation.Passes.{open_at, unless_quoted, valued, values_in}
use Rattle.m1_lang.proofs.Definings.{meant-by, refused}
use Rattle.m1_lang.proofs.Passing.{define-word, parts-plain, words-end}
use Rattle.m1_lang.proofs.definitions.definitions_of.Goals as goal

pub loop-at-preserved : goal.loop-at-preserved
loop-at-preserved c =
    let word : Word = record { at = c.in-Word.start; text = c.in-Word.text.now } in
    let values = values_in c.loop-at.table in
    record {
      quote = c.loop-at.invariant.quote ∙ ap open_quote c.in-Word.ensures.0;
      whole = c.loop-at.invariant.whole ∙ ap (λ (w : Words). valued values (parts (word_list w))) c.in-Word.ensures.0
          ∙ ap (valued values) (parts-plain word (word_list (words_at c.args.source.now c.in-Word.after)) (sym c.if-is_define.ensures));
      keyed = c.loop-at.invariant.keyed;
      within = c.in-Word.ensures.2;
    }

pub loop-at-preserved-in-Ok : goal.loop-at-preserved-in-Ok
loop-at-preserved-in-Ok c =
    let word : Word = record { at = c.in-Word.start; text = c.in-Word.text.now } in
    let values = values_in c.loop-at.table in
    record {
      quote = c.loop-at.invariant.quote ∙ ap open_quote c.in-Word.ensures.0 ∙ c.in-Ok.ensures.defines.1;
      whole = c.loop-at.invariant.whole ∙ ap (λ (w : Words). valued values (parts (word_list w))) c.in-Word.ensures.0
          ∙ define-word values word (word_list (words_at c.args.source.now c.in-Word.after)) (sym c.if-is_define.ensures) ∙ c.in-Ok.ensures.defines.0;
      keyed = ap (λ (key : NamesKey). key.begun) c.in-Ok.ensures.kept ∙ c.loop-at.invariant.keyed;
      within = c.in-Ok.ensures.defines.3;
    }

pub returns-in-Err-clause-tabulates : goal.returns-in-Err-clause-tabulates
returns-in-Err-clause-tabulates c =
    let word : Word = record { at = c.in-Word.start; text = c.in-Word.text.now } in
    let source = c.args.source.now in
    let values = values_in c.loop-at.table in
    let remaining = word_list (words_at source c.in-Word.after) in
    let meant = meant-by values source c.loop-at.at _ c.loop-at.invariant.quote c.loop-at.invariant.whole c.in-Word.ensures.0
    ∙ ap (unless_quoted (open_at source c.in-Word.after)) (define-word values word remaining (sym c.if-is_define.ensures)) in
    rw c.unless_open.ensures (refused (open_at source c.in-Word.after) c.in-Err.why c.in-Word.start c.in-Word.after source
    c.loop-at.table c.define.new.table _ meant c.in-Err.ensures.defines)

pub returns-clause-tabulates : goal.returns-clause-tabulates
returns-clause-tabulates c = meant-by (values_in c.loop-at.table) c.args.source.now c.loop-at.at NoWord c.loop-at.invariant.quote c.loop-at.invariant.whole (words-end c.args.source.now c.loop-at.at (omega arith))

pub returns-in-End-clause-tabulates : goal.returns-in-End-clause-tabulates
returns-in-End-clause-tabulates c =
    meant-by (values_in c.loop-at.table) c.args.source.now c.loop-at.at NoWord c.loop-at.invariant.quote c.loop-at.invariant.whole c.in-End.ensures
