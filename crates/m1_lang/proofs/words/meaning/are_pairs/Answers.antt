use Rattle.std.proofs.Common.{arith, ap, sym, ◌∙◌, ◌≡◌, ◌+◌, drop, get_or, is_some, ◌∷◌}
use Rattle.std.proofs.lemmas.List.{at_drop_more, drop_all}
use Rattle.m1_lang.specs.Words.Digits.{digit_bytes}
use Rattle.m1_lang.proofs.WordsLemmas.Pairs.{pairs-more}
use Rattle.m1_lang.proofs.words.meaning.are_pairs.Goals as goal

pub returns-then-at-text : goal.returns-then-at-text
returns-then-at-text c =
    let text = c.args.text.now in
    let one = at_drop_more (λ l. is_some (digit_bytes l)) text c.loop-at.at 0 (omega arith) in
    let none = ap (λ l. is_some (digit_bytes (get_or text c.loop-at.at 0 ∷ l))) (drop_all (c.loop-at.at + 1) text (omega arith)) in
    sym (c.loop-at.invariant.whole ∙ one ∙ none)

pub loop-at-preserved : goal.loop-at-preserved
loop-at-preserved c =
    let text = c.args.text.now in
    let at = c.loop-at.at in
    let one = at_drop_more (λ l. is_some (digit_bytes l)) text at 0 (omega arith) in
    let two = at_drop_more (λ l. is_some (digit_bytes (get_or text at 0 ∷ l))) text (at + 1) 0 (omega arith) in
    let next : at + 1 + 1 ≡ at + 2 = omega arith in
    record {
      whole = c.loop-at.invariant.whole ∙ one ∙ two
          ∙ pairs-more (get_or text at 0) (get_or text (at + 1) 0) (drop (at + 1 + 1) text) c.in-Some.field-0 c.in-Some.ensures
          ∙ ap (λ n. is_some (digit_bytes (drop n text))) next;
      within = omega arith;
    }
