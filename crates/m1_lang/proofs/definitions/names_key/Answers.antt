use Rattle.std.proofs.Common.{arith, ap, refl, sym, subst, ◌∙◌, List, [], ◌++◌, ℕ, append-nil, length}
use Rattle.m1_lang.specs.Words.Words.{Word, Words, word_list}
use Rattle.m1_lang.specs.Words.Ahead.{words_at}
use Rattle.hex_langs.specs.NameKeys.{Took}
use Rattle.m1_lang.specs.Definitions.{defined_names, parts}
use Rattle.m1_lang.specs.Representation.Passes.{parts_at, TookUpTo}
use Rattle.m1_lang.proofs.Passing.{define-names, no-names-remaining, no-word, parts-plain}
use Rattle.m1_lang.proofs.definitions.names_key.Goals as goal

pub loop-at-init : goal.loop-at-init
loop-at-init c = record { took = record { seen = []; took = c.new-names.ensures; whole = refl }; within = omega arith }

pub loop-at-preserved-then-is_define : goal.loop-at-preserved-then-is_define
loop-at-preserved-then-is_define c =
    let source = c.args.source.now in
    let word : Word = record { at = c.in-Word.field-0; text = c.in-Word.text.now } in
    let before = c.loop-at.invariant.took in
    let rest = ap (λ (w : Words). defined_names (parts (word_list w))) c.in-Word.ensures.0
    ∙ define-names word (word_list (words_at source c.in-Word.after)) (sym c.if-is_define.ensures) in
    record {
      took = subst (TookUpTo c.take_name-at.new.names source c.take_name-at.result)
          (ap (λ (l : List (List ℕ)). before.seen ++ l) (sym rest) ∙ before.whole) (c.take_name-at.ensures.0 before.seen before.took);
      within = c.take_name-at.ensures.2;
    }

pub loop-at-preserved-else-is_define : goal.loop-at-preserved-else-is_define
loop-at-preserved-else-is_define c =
    let source = c.args.source.now in
    let word : Word = record { at = c.in-Word.field-0; text = c.in-Word.text.now } in
    let before = c.loop-at.invariant.took in
    let rest = ap (λ (w : Words). defined_names (parts (word_list w))) c.in-Word.ensures.0
    ∙ ap defined_names (parts-plain word (word_list (words_at source c.in-Word.after)) (sym c.if-is_define.ensures)) in
    record {
      took = record { seen = before.seen; took = before.took; whole = ap (λ (l : List (List ℕ)). before.seen ++ l) (sym rest) ∙ before.whole };
      within = c.in-Word.ensures.2;
    }

pub loop-at-preserved : goal.loop-at-preserved
loop-at-preserved c =
    let source = c.args.source.now in
    let none = no-word c.next_word.result source c.loop-at.at c.next_word.ensures c.in_default.not-Word in
    let before = c.loop-at.invariant.took in
    let rest = ap (λ (l : List Word). defined_names (parts l)) none ∙ sym (no-names-remaining source (length source) (omega arith)) in
    record {
      took = record { seen = before.seen; took = before.took; whole = ap (λ (l : List (List ℕ)). before.seen ++ l) (sym rest) ∙ before.whole };
      within = omega arith;
    }

pub returns : goal.returns
returns c =
    let took = c.loop-at.invariant.took in
    let all = sym (ap (λ (l : List (List ℕ)). took.seen ++ l) (no-names-remaining c.args.source.now c.loop-at.at (omega arith)) ∙ append-nil took.seen) ∙ took.whole in
    c.key.ensures (defined_names (parts_at c.args.source.now 0)) (subst (Took c.loop-at.names) all took.took)
