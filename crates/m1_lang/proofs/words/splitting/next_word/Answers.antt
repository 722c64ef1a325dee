use Rattle.std.proofs.Common.{arith, ap, sym, ◌∙◌, ◌≡◌, ◌+◌, ◌-◌, ◌∷◌, drop, take, get_or, length, ℕ, refl, None, Some, suc}
use Rattle.std.proofs.lemmas.List.{drop_all, length-drop, length-take}
use Rattle.hex_langs.specs.Items.Tokens.{gap_length}
use Rattle.hex_langs.proofs.ItemsLemmas.Readings.{prefix_is, rest_is}
use Rattle.m1_lang.specs.Words.Words.{word_more, words_from}
use Rattle.m1_lang.proofs.WordsLemmas.Splits.{no-gap-following, past-gap, split-unclosed, split-word}
use Rattle.m1_lang.proofs.words.splitting.next_word.Goals as goal

pub returns-then-start-source : goal.returns-then-start-source
unfolding words_from
returns-then-start-source c =
    let source = c.args.source.now in
    let size = c.gap_length.ensures.value ∙ ap gap_length (rest_is source c.args.at) in
    past-gap source c.args.at c.gap_length.result size
    ∙ ap (words_from (c.args.at + c.gap_length.result) 0) (drop_all (c.args.at + c.gap_length.result) source (omega arith))

pub returns-in-None : goal.returns-in-None
returns-in-None c =
    let source = c.args.source.now in
    let start = c.args.at + c.gap_length.result in
    let size = c.gap_length.ensures.value ∙ ap gap_length (rest_is source c.args.at) in
    let none : word_more (get_or source start 0) (drop (start + 1) source) ≡ None = ap (word_more (get_or source start 0)) (sym (rest_is source (start + 1))) ∙ sym c.in-None.ensures.value in
    past-gap source c.args.at c.gap_length.result size
    ∙ split-unclosed source start (omega arith) (no-gap-following source c.args.at c.gap_length.result size (omega arith)) none

pub returns-in-Some : goal.returns-in-Some
returns-in-Some c =
    let source = c.args.source.now in
    let start : ℕ = c.args.at + c.gap_length.result in
    let more = c.in-Some.more in
    let size = c.gap_length.ensures.value ∙ ap gap_length (rest_is source c.args.at) in
    let found : word_more (get_or source start 0) (drop (start + 1) source) ≡ Some more = ap (word_more (get_or source start 0)) (sym (rest_is source (start + 1))) ∙ sym c.in-Some.ensures.value in
    let count : start + 1 + more - start ≡ suc more = omega arith in
    let text : take (start + 1 + more - start) (drop start source) ≡ get_or source start 0 ∷ take more (drop (start + 1) source) =
    ap (λ (n : ℕ). take n (drop start source)) count ∙ ap (take (suc more)) (prefix_is source start (omega arith)) in (
      past-gap source c.args.at c.gap_length.result size
          ∙ split-word source (take (start + 1 + more - start) (drop start source)) start more (start + 1 + more) (omega arith) (no-gap-following source c.args.at c.gap_length.result size (omega arith)) found refl text,
      omega arith,
      omega (arith, c.in-Some.ensures.within, ap length (rest_is source (start + 1)), length-drop (start + 1) source),
      omega (arith, ap length text, length-take more (drop (start + 1) source), c.in-Some.ensures.within, ap length (rest_is source (start + 1))),
    )
