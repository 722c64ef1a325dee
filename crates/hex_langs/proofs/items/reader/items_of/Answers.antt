use Rattle.std.proofs.Common.{arith, ◌≡◌, ◌+◌, length, drop, get_or, None, Some, Ok, Err, sym, ap, ◌∙◌}
use Rattle.std.proofs.lemmas.List.{at_drop_all, length-drop}
use Rattle.hex_langs.specs.Items.Tokens.{gap_length, token_at}
use Rattle.hex_langs.specs.declared.items.token.Token.TheVariants.{Byte}
use Rattle.hex_langs.specs.Items.Reading.{word_end, NoToken, Faulted, formed, reading, with_prefix, halted}
use Rattle.hex_langs.proofs.ItemsLemmas.Readings.{items_of-judged, items_of-long, judged-end, moves-fault, moves-gap, moves-token, formed-token, reading-end, reads-by, reads-fault, refuses, rest_is, takes-ok, token-digit, with_prefix-twice}
use Rattle.hex_langs.proofs.items.reader.items_of.Goals as goal

pub returns-then-source-gt-MOST_SOURCE : goal.returns-then-source-gt-MOST_SOURCE
returns-then-source-gt-MOST_SOURCE c = items_of-long c.args.dialect c.args.source.now (omega arith)

pub loop-at-smaller-then-opens_gap : goal.loop-at-smaller-then-opens_gap
loop-at-smaller-then-opens_gap c =
    let size = c.gap_length-at.ensures.value ∙ ap gap_length (rest_is c.args.source.now c.loop-at.at) in
    let moved = moves-gap c.args.dialect c.args.source.now c.loop-at.at c.gap_length-at.result (omega arith) (sym c.if-opens_gap.ensures) size in
    omega (arith, moved.0)

pub loop-at-preserved-then-opens_gap : goal.loop-at-preserved-then-opens_gap
loop-at-preserved-then-opens_gap c =
    let source = c.args.source.now in
    let size = c.gap_length-at.ensures.value ∙ ap gap_length (rest_is source c.loop-at.at) in
    let moved = moves-gap c.args.dialect source c.loop-at.at c.gap_length-at.result (omega arith) (sym c.if-opens_gap.ensures) size in
    record {
      whole = c.loop-at.invariant.whole ∙ ap (λ l. with_prefix c.loop-at.items (formed c.loop-at.word l)) moved.1;
      few = c.loop-at.invariant.few;
      within = omega (arith, c.gap_length-at.ensures.within, ap length (rest_is source c.loop-at.at), length-drop c.loop-at.at source);
    }

pub returns-in-Err : goal.returns-in-Err
returns-in-Err c =
    let source = c.args.source.now in
    let at = c.loop-at.at in
    let found : token_at c.args.dialect (get_or source at 0) (drop (at + 1) source) ≡ Err c.in-Err.fault = ap (token_at c.args.dialect (get_or source at 0)) (sym (rest_is source (at + 1))) ∙ token-digit c.args.dialect _ _ (sym c.if-is_digit.ensures) ∙ c.in-Err.ensures.value in
    let moved = moves-fault c.args.dialect source at c.in-Err.fault (omega arith) (sym c.if-opens_gap.ensures) found in
    let whole = c.loop-at.invariant.whole ∙ ap (λ l. with_prefix c.loop-at.items (formed c.loop-at.word l)) moved in
    let judged_is = judged-end _ c.loop-at.items (Faulted c.in-Err.fault at) whole c.loop-at.invariant.few in
    rw c.fault_at.ensures (reads-fault _ c.in-Err.fault at (items_of-judged c.args.dialect source (omega arith) ∙ judged_is))

pub returns-in-Err-take_byte : goal.returns-in-Err-take_byte
returns-in-Err-take_byte c =
    let source = c.args.source.now in
    let at = c.loop-at.at in
    let found : token_at c.args.dialect (get_or source at 0) (drop (at + 1) source) ≡ Ok ((Byte c.in-Ok.value), c.in-Ok.more) = ap (token_at c.args.dialect (get_or source at 0)) (sym (rest_is source (at + 1))) ∙ token-digit c.args.dialect _ _ (sym c.if-is_digit.ensures) ∙ c.in-Ok.ensures.value in
    let moved = moves-token c.args.dialect source at c.in-Ok.more (Byte c.in-Ok.value) (omega arith) (sym c.if-opens_gap.ensures) found in
    let whole = c.loop-at.invariant.whole ∙ ap (λ l. with_prefix c.loop-at.items (formed c.loop-at.word l)) moved in
    let refused = refuses _ c.loop-at.items c.take_byte.new.items c.loop-at.word at (Byte c.in-Ok.value) _ c.in-Err-take_byte.halt whole (c.in-Err-take_byte.ensures.takes at) c.loop-at.invariant.few in
    rw c.halted.ensures (reads-by _ _ (Err (halted c.in-Err-take_byte.halt)) (items_of-judged c.args.dialect source (omega arith)) refused)

pub loop-at-preserved-in-Ok-take_byte : goal.loop-at-preserved-in-Ok-take_byte
loop-at-preserved-in-Ok-take_byte c =
    let source = c.args.source.now in
    let at = c.loop-at.at in
    let found : token_at c.args.dialect (get_or source at 0) (drop (at + 1) source) ≡ Ok ((Byte c.in-Ok.value), c.in-Ok.more) = ap (token_at c.args.dialect (get_or source at 0)) (sym (rest_is source (at + 1))) ∙ token-digit c.args.dialect _ _ (sym c.if-is_digit.ensures) ∙ c.in-Ok.ensures.value in
    let moved = moves-token c.args.dialect source at c.in-Ok.more (Byte c.in-Ok.value) (omega arith) (sym c.if-opens_gap.ensures) found in
    let whole = c.loop-at.invariant.whole ∙ ap (λ l. with_prefix c.loop-at.items (formed c.loop-at.word l)) moved in
    let taken_is = takes-ok _ c.in-Ok-take_byte.next c.loop-at.items c.take_byte.new.items (c.in-Ok-take_byte.ensures.takes at) in
    let later = reading c.args.dialect (at + (1 + c.in-Ok.more)) 0 (drop (at + (1 + c.in-Ok.more)) source) in
    let step = formed-token c.loop-at.word c.in-Ok-take_byte.next at (Byte c.in-Ok.value) later taken_is.0 taken_is.1 in
    record {
      whole = whole ∙ ap (with_prefix c.loop-at.items) step ∙ with_prefix-twice c.loop-at.items taken_is.0 (formed c.in-Ok-take_byte.next later)
          ∙ ap (λ items. with_prefix items (formed c.in-Ok-take_byte.next later)) (sym taken_is.2);
      few = c.in-Ok-take_byte.ensures.few;
      within = omega (arith, c.in-Ok.ensures.within, ap length (rest_is source (at + 1)), length-drop (at + 1) source);
    }

pub returns-in-Err-token_at : goal.returns-in-Err-token_at
returns-in-Err-token_at c =
    let source = c.args.source.now in
    let at = c.loop-at.at in
    let found : token_at c.args.dialect (get_or source at 0) (drop (at + 1) source) ≡ Err c.in-Err-token_at.fault = ap (token_at c.args.dialect (get_or source at 0)) (sym (rest_is source (at + 1))) ∙ sym c.in-Err-token_at.ensures.value in
    let moved = moves-fault c.args.dialect source at c.in-Err-token_at.fault (omega arith) (sym c.if-opens_gap.ensures) found in
    let whole = c.loop-at.invariant.whole ∙ ap (λ l. with_prefix c.loop-at.items (formed c.loop-at.word l)) moved in
    let judged_is = judged-end _ c.loop-at.items (Faulted c.in-Err-token_at.fault at) whole c.loop-at.invariant.few in
    rw c.fault_at-in-Err-token_at.ensures (reads-fault _ c.in-Err-token_at.fault at (items_of-judged c.args.dialect source (omega arith) ∙ judged_is))

pub returns-in-Err-take : goal.returns-in-Err-take
returns-in-Err-take c =
    let source = c.args.source.now in
    let at = c.loop-at.at in
    let found : token_at c.args.dialect (get_or source at 0) (drop (at + 1) source) ≡ Ok (c.in-Ok-token_at.token, c.in-Ok-token_at.more) = ap (token_at c.args.dialect (get_or source at 0)) (sym (rest_is source (at + 1))) ∙ sym c.in-Ok-token_at.ensures.value in
    let moved = moves-token c.args.dialect source at c.in-Ok-token_at.more c.in-Ok-token_at.token (omega arith) (sym c.if-opens_gap.ensures) found in
    let whole = c.loop-at.invariant.whole ∙ ap (λ l. with_prefix c.loop-at.items (formed c.loop-at.word l)) moved in
    let refused = refuses _ c.loop-at.items c.take.new.items c.loop-at.word at c.in-Ok-token_at.token _ c.in-Err-take.halt whole c.in-Err-take.ensures.takes c.loop-at.invariant.few in
    rw c.halted-in-Err-take.ensures (reads-by _ _ (Err (halted c.in-Err-take.halt)) (items_of-judged c.args.dialect source (omega arith)) refused)

pub loop-at-preserved : goal.loop-at-preserved
loop-at-preserved c =
    let source = c.args.source.now in
    let at = c.loop-at.at in
    let found : token_at c.args.dialect (get_or source at 0) (drop (at + 1) source) ≡ Ok (c.in-Ok-token_at.token, c.in-Ok-token_at.more) = ap (token_at c.args.dialect (get_or source at 0)) (sym (rest_is source (at + 1))) ∙ sym c.in-Ok-token_at.ensures.value in
    let moved = moves-token c.args.dialect source at c.in-Ok-token_at.more c.in-Ok-token_at.token (omega arith) (sym c.if-opens_gap.ensures) found in
    let whole = c.loop-at.invariant.whole ∙ ap (λ l. with_prefix c.loop-at.items (formed c.loop-at.word l)) moved in
    let taken_is = takes-ok _ c.in-Ok-take.next c.loop-at.items c.take.new.items c.in-Ok-take.ensures.takes in
    let later = reading c.args.dialect (at + (1 + c.in-Ok-token_at.more)) 0 (drop (at + (1 + c.in-Ok-token_at.more)) source) in
    let step = formed-token c.loop-at.word c.in-Ok-take.next at c.in-Ok-token_at.token later taken_is.0 taken_is.1 in
    record {
      whole = whole ∙ ap (with_prefix c.loop-at.items) step ∙ with_prefix-twice c.loop-at.items taken_is.0 (formed c.in-Ok-take.next later)
          ∙ ap (λ items. with_prefix items (formed c.in-Ok-take.next later)) (sym taken_is.2);
      few = c.in-Ok-take.ensures.few;
      within = omega (arith, c.in-Ok-token_at.ensures.within, ap length (rest_is source (at + 1)), length-drop (at + 1) source);
    }

pub returns-in-None : goal.returns-in-None
returns-in-None c =
    let source = c.args.source.now in
    let done = at_drop_all (reading c.args.dialect c.loop-at.at 0) source c.loop-at.at (omega arith) ∙ reading-end c.args.dialect c.loop-at.at in
    let whole = c.loop-at.invariant.whole ∙ ap (λ l. with_prefix c.loop-at.items (formed c.loop-at.word l)) done
    ∙ ap (λ word. with_prefix c.loop-at.items (formed word NoToken)) c.in-None.is in
    items_of-judged c.args.dialect source (omega arith) ∙ judged-end _ c.loop-at.items (word_end None) whole c.loop-at.invariant.few

pub returns : goal.returns
returns c =
    let source = c.args.source.now in
    let done = at_drop_all (reading c.args.dialect c.loop-at.at 0) source c.loop-at.at (omega arith) ∙ reading-end c.args.dialect c.loop-at.at in
    let whole = c.loop-at.invariant.whole ∙ ap (λ l. with_prefix c.loop-at.items (formed c.loop-at.word l)) done
    ∙ ap (λ word. with_prefix c.loop-at.items (formed word NoToken)) c.in-Some.is in
    items_of-judged c.args.dialect source (omega arith) ∙ judged-end _ c.loop-at.items (word_end (Some c.in-Some.word)) whole c.loop-at.invariant.few
