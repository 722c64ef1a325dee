use Rattle.std.proofs.Common.{◌≡◌, ◌<◌, ◌≤◌, ◌++◌, ◌∷◌, [], ◌+◌, length, take, ap, ◌∙◌, arith, Ok}
use Rattle.std.specs.Prelude.{slice_set}
use Rattle.std.proofs.lemmas.Result.{err_from_is_err_and}
use Rattle.std.proofs.lemmas.List.{take_more_set, length-set, take_all}
use Rattle.save_format.proofs.PatchTextLemmas.Marked.{goes_on, stops, is_done}
use Rattle.save_format.proofs.patch_text.fields.marked_of.Goals as goal

pub returns-in_err-registers : goal.returns-in_err-registers
returns-in_err-registers c =
    let p = err_from_is_err_and c.from_residual.result c.from_residual.ensures.1 in
    let lt : c.loop-index.index < length c.args.base.now = omega (arith, c.loop-index-test.true, c.told-base) in
    rw (p.1, p.2) (stops c.args.base.now c.loop-index.higher c.loop-index.index c.in_err-registers.field-0.0.remaining (take c.loop-index.index c.loop-index.registers) c.loop-index.cursor _ lt c.in_err-registers.ensures c.loop-index.invariant.read)

pub loop-index-preserved : goal.loop-index-preserved
loop-index-preserved c =
    let long = c.loop-index.invariant.long in
    let lt : c.loop-index.index < length c.args.base.now = omega (arith, c.loop-index-test.true, c.told-base) in
    let more : take (c.loop-index.index + 1) (slice_set c.loop-index.registers c.loop-index.index c.in_ok-registers.field-0) ≡ take c.loop-index.index c.loop-index.registers ++ c.in_ok-registers.field-0 ∷ []
    = take_more_set c.loop-index.registers c.loop-index.index c.in_ok-registers.field-0 (omega (arith, c.loop-index-test.true, long)) in
    record {
      long = length-set c.loop-index.registers c.loop-index.index c.in_ok-registers.field-0 ∙ long;
      read = rw more (goes_on c.args.base.now c.loop-index.higher c.loop-index.index (take c.loop-index.index c.loop-index.registers) c.loop-index.cursor c.in_ok-registers.field-0 c.register_of.new.cursor _ lt c.in_ok-registers.ensures c.loop-index.invariant.read);
    }

pub returns : goal.returns
returns c =
    let long = c.loop-index.invariant.long in
    let past : length c.args.base.now ≤ c.loop-index.index = omega (arith, c.loop-index-test.false, c.told-base) in
    let all : take c.loop-index.index c.loop-index.registers ≡ c.loop-index.registers = take_all c.loop-index.index c.loop-index.registers (omega (arith, long, c.loop-index-test.false)) in
    is_done c.args.base.now c.loop-index.higher c.loop-index.index (take c.loop-index.index c.loop-index.registers) c.loop-index.cursor _ past c.loop-index.invariant.read ∙ ap (λ prefix. Ok (prefix, c.loop-index.cursor)) all
