use Rattle.std.proofs.Common.{◌≡◌, ◌+◌, ◌-◌, ℕ, List, [], ◌∷◌, ◌++◌, length, drop, take, arith, sym, ap, ◌∙◌, Ok}
use Rattle.std.proofs.lemmas.List.{length-drop}
use Rattle.kaem_script.proofs.Steps.{Begins, at-blank, at-comment, at-end, at-fault, at-line-end, at-word, after_is, rest_is}
use Rattle.kaem_script.proofs.reading.read.Goals as goal

pub loop-at-preserved-then-byte-eq10 : goal.loop-at-preserved-then-byte-eq10
loop-at-preserved-then-byte-eq10 c =
    let script = c.args.script.now in
    let here = rest_is script c.loop-at.at in
    let words = c.in_ok-end_line.ensures.words in
    let commands = c.in_ok-end_line.ensures.commands in
    (omega arith, rw (commands, words) (sym (at-line-end script _ c.loop-at.at c.loop-at.commands c.loop-at.words c.loop-at-test.true here c.if-byte-eq10.true) ∙ c.loop-at.invariant.1))

pub loop-at-preserved-then-parts_words : goal.loop-at-preserved-then-parts_words
loop-at-preserved-then-parts_words c =
    let script = c.args.script.now in
    let here = rest_is script c.loop-at.at in
    (omega arith, sym (at-blank script _ c.loop-at.at c.loop-at.commands c.loop-at.words c.loop-at-test.true here c.if-byte-eq10.false (sym c.if-parts_words.ensures)) ∙ c.loop-at.invariant.1)

pub loop-at-preserved-then-byte-eq35 : goal.loop-at-preserved-then-byte-eq35
loop-at-preserved-then-byte-eq35 c =
    let script = c.args.script.now in
    let here = rest_is script c.loop-at.at in
    let following = after_is script c.loop-at.at in (
      omega (arith, ap length following, length-drop (c.loop-at.at + 1) script),
      sym (at-comment script _ _ c.loop-at.at c.until_line_end.result c.loop-at.commands c.loop-at.words c.loop-at-test.true here following c.if-byte-eq35.true c.until_line_end.ensures.value)
          ∙ c.loop-at.invariant.1,
    )

pub loop-at-preserved : goal.loop-at-preserved
loop-at-preserved c =
    let script = c.args.script.now in
    let here = rest_is script c.loop-at.at in
    let begins : Begins script (take (length script - c.loop-at.at) (drop c.loop-at.at script)) c.loop-at.at =
    record { within = c.loop-at-test.true; is = here; not_end = c.if-byte-eq10.false; not_blank = sym c.if-parts_words.ensures; not_comment = c.if-byte-eq35.false } in
    let bounds = c.in-Ok.ensures.within in
    let size : c.word.inside.size ≡ c.in-Ok.word.size = ap (λ w. w.size) c.word.view_is in
    let pushed = c.in_ok-push-in-Ok.ensures.ok in
    let taken : c.push.new.self ≡ c.loop-at.words ++ c.in-Ok.word.text ∷ [] =
    pushed ∙ ap (λ (t : List ℕ). c.loop-at.words ++ t ∷ []) (c.in_ok-from_slice-in-Ok.ensures ∙ ap (λ w. w.text) c.word.view_is) in (
      omega (arith, bounds, size, ap length here, length-drop c.loop-at.at script),
      rw (taken, size) (sym (at-word script _ c.loop-at.at c.loop-at.commands c.loop-at.words c.in-Ok.word begins (sym c.in-Ok.ensures.value) bounds.0) ∙ c.loop-at.invariant.1),
    )

pub returns-in-Err : goal.returns-in-Err
returns-in-Err c =
    let script = c.args.script.now in
    let here = rest_is script c.loop-at.at in
    let begins : Begins script (take (length script - c.loop-at.at) (drop c.loop-at.at script)) c.loop-at.at =
    record { within = c.loop-at-test.true; is = here; not_end = c.if-byte-eq10.false; not_blank = sym c.if-parts_words.ensures; not_comment = c.if-byte-eq35.false } in
    sym c.loop-at.invariant.1 ∙ at-fault script _ c.loop-at.at c.loop-at.commands c.loop-at.words c.in-Err.fault begins (sym c.in-Err.ensures.value)

pub returns : goal.returns
returns c =
    let script = c.args.script.now in
    sym c.loop-at.invariant.1 ∙ at-end script c.loop-at.at c.loop-at.commands c.loop-at.words (omega arith) ∙ ap Ok (sym c.in_ok-end_line-2.ensures.commands)
