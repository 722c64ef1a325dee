use Rattle.std.proofs.Common.{arith, ◌≡◌, ◌+◌, length, drop, get_or, Some, Ok, Err, IfOk, refl, sym, subst, ap, ◌∙◌, length-append}
use Rattle.std.proofs.lemmas.List.{at_drop_all, length-drop}
use Rattle.hex_langs.specs.Items.Reading.{reading}
use Rattle.hex_langs.specs.Items.Tokens.{gap_length, token_at}
use Rattle.hex_langs.specs.Items.Words.{taken}
use Rattle.hex_langs.proofs.ItemsLemmas.Readings.{moves-fault, moves-gap, moves-token, reading-end, rest_is, takes-ok}
use Rattle.tool_commands.specs.Offsets.{first_offset, item_offset, offset_of_item}
use Rattle.tool_commands.proofs.OffsetSteps.{found-here, found-later, stops}
use Rattle.tool_commands.proofs.offsets.offset_of_item.Goals as goal

pub loop-at-init : goal.loop-at-init
unfolding offset_of_item
loop-at-init c = rw c.new-items.ensures (record { whole = refl; few = omega arith; within = omega arith })

pub loop-at-smaller-then-opens_gap : goal.loop-at-smaller-then-opens_gap
loop-at-smaller-then-opens_gap c =
    let size = c.gap_length-at.ensures.value ∙ ap gap_length (rest_is c.args.source.now c.loop-at.at) in
    let moved = moves-gap c.args.dialect c.args.source.now c.loop-at.at c.gap_length-at.result (omega arith) (sym c.if-opens_gap.ensures) size in
    omega (arith, moved.0)

pub loop-at-preserved-then-opens_gap : goal.loop-at-preserved-then-opens_gap
loop-at-preserved-then-opens_gap c =
    let source = c.args.source.now in
    let size = c.gap_length-at.ensures.value ∙ ap gap_length (rest_is source c.loop-at.at) in
    let moved = moves-gap c.args.dialect source c.loop-at.at c.gap_length-at.result (omega arith) (sym c.if-opens_gap.ensures) size in
    record {
      whole = c.loop-at.invariant.whole ∙ ap (item_offset c.args.index (length c.loop-at.items) c.loop-at.word) moved.1;
      few = c.loop-at.invariant.few;
      within = omega (arith, c.gap_length-at.ensures.within, ap length (rest_is source c.loop-at.at), length-drop c.loop-at.at source);
    }

pub returns-in-Err : goal.returns-in-Err
returns-in-Err c =
    let source = c.args.source.now in
    let at = c.loop-at.at in
    let found : token_at c.args.dialect (get_or source at 0) (drop (at + 1) source) ≡ Err c.in-Err.field-0 = ap (token_at c.args.dialect (get_or source at 0)) (sym (rest_is source (at + 1))) ∙ sym c.in-Err.ensures.value in
    sym (c.loop-at.invariant.whole ∙ ap (item_offset c.args.index (length c.loop-at.items) c.loop-at.word) (moves-fault c.args.dialect source at c.in-Err.field-0 (omega arith) (sym c.if-opens_gap.ensures) found))

pub take-requires : goal.take-requires
take-requires c = c.loop-at.invariant.few

pub returns-in-Err-take : goal.returns-in-Err-take
returns-in-Err-take c =
    let source = c.args.source.now in
    let at = c.loop-at.at in
    let found : token_at c.args.dialect (get_or source at 0) (drop (at + 1) source) ≡ Ok (c.in-Ok.token, c.in-Ok.more) = ap (token_at c.args.dialect (get_or source at 0)) (sym (rest_is source (at + 1))) ∙ sym c.in-Ok.ensures.value in
    let moved = moves-token c.args.dialect source at c.in-Ok.more c.in-Ok.token (omega arith) (sym c.if-opens_gap.ensures) found in
    subst (λ meant. IfOk c.stopped.result (λ offset. offset ≡ meant)) (sym (c.loop-at.invariant.whole ∙ ap (item_offset c.args.index (length c.loop-at.items) c.loop-at.word) moved))
    (stops c.args.index (first_offset c.loop-at.word at) c.loop-at.items c.take.new.items _ c.in-Err-take.halt c.stopped.result (taken c.loop-at.word at c.in-Ok.token) c.stopped.ensures c.in-Err-take.ensures.takes)

pub returns-then-index-len : goal.returns-then-index-len
returns-then-index-len c =
    let source = c.args.source.now in
    let at = c.loop-at.at in
    let found : token_at c.args.dialect (get_or source at 0) (drop (at + 1) source) ≡ Ok (c.in-Ok.token, c.in-Ok.more) = ap (token_at c.args.dialect (get_or source at 0)) (sym (rest_is source (at + 1))) ∙ sym c.in-Ok.ensures.value in
    let later = reading c.args.dialect (at + (1 + c.in-Ok.more)) 0 (drop (at + (1 + c.in-Ok.more)) source) in
    let moved = moves-token c.args.dialect source at c.in-Ok.more c.in-Ok.token (omega arith) (sym c.if-opens_gap.ensures) found in
    let taken_is = takes-ok _ c.in-Ok-take.next c.loop-at.items c.take.new.items c.in-Ok-take.ensures.takes in
    let count : length c.take.new.items ≡ length c.loop-at.items + length taken_is.0 = ap length taken_is.2 ∙ length-append c.loop-at.items taken_is.0 in
    let few = c.in-Ok-take.ensures.few in
    let size = c.len.ensures.value in
    sym (c.loop-at.invariant.whole ∙ ap (item_offset c.args.index (length c.loop-at.items) c.loop-at.word) moved
    ∙ found-here c.args.index (length c.loop-at.items) c.loop-at.word c.in-Ok-take.next at c.in-Ok.token later taken_is.0 taken_is.1 (omega (arith, few, count)) (omega (arith, c.if-index-len.true, size, count))
    ∙ ap Some (sym c.first_offset-first.ensures))

pub loop-at-preserved : goal.loop-at-preserved
loop-at-preserved c =
    let source = c.args.source.now in
    let at = c.loop-at.at in
    let found : token_at c.args.dialect (get_or source at 0) (drop (at + 1) source) ≡ Ok (c.in-Ok.token, c.in-Ok.more) = ap (token_at c.args.dialect (get_or source at 0)) (sym (rest_is source (at + 1))) ∙ sym c.in-Ok.ensures.value in
    let later = reading c.args.dialect (at + (1 + c.in-Ok.more)) 0 (drop (at + (1 + c.in-Ok.more)) source) in
    let moved = moves-token c.args.dialect source at c.in-Ok.more c.in-Ok.token (omega arith) (sym c.if-opens_gap.ensures) found in
    let taken_is = takes-ok _ c.in-Ok-take.next c.loop-at.items c.take.new.items c.in-Ok-take.ensures.takes in
    let count : length c.take.new.items ≡ length c.loop-at.items + length taken_is.0 = ap length taken_is.2 ∙ length-append c.loop-at.items taken_is.0 in
    let few = c.in-Ok-take.ensures.few in
    let size = c.len.ensures.value in
    record {
      whole = c.loop-at.invariant.whole ∙ ap (item_offset c.args.index (length c.loop-at.items) c.loop-at.word) moved
          ∙ found-later c.args.index (length c.loop-at.items) c.loop-at.word c.in-Ok-take.next at c.in-Ok.token later taken_is.0 taken_is.1 (omega (arith, few, count)) (omega (arith, c.if-index-len.false, size, count))
          ∙ ap (λ so_far. item_offset c.args.index so_far c.in-Ok-take.next later) (sym count);
      few = few;
      within = omega (arith, c.in-Ok.ensures.within, ap length (rest_is source (at + 1)), length-drop (at + 1) source);
    }

pub returns : goal.returns
returns c =
    let source = c.args.source.now in
    let done = at_drop_all (reading c.args.dialect c.loop-at.at 0) source c.loop-at.at (omega arith) ∙ reading-end c.args.dialect c.loop-at.at in
    sym (c.loop-at.invariant.whole ∙ ap (item_offset c.args.index (length c.loop-at.items) c.loop-at.word) done)
