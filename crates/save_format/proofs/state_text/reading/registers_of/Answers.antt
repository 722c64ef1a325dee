use Rattle.std.proofs.Common.{◌≡◌, ◌++◌, ◌∷◌, [], ◌+◌, take, refl, ap, ◌∙◌, arith, Ok}
use Rattle.std.specs.Prelude.{slice_set}
use Rattle.std.proofs.lemmas.Result.{err_from_is_err_and}
use Rattle.std.proofs.lemmas.List.{take_more_set, length-set, take_all}
use Rattle.save_format.specs.ByteFields.Reader.{u64}
use Rattle.save_format.proofs.ByteFieldsLemmas.Loop.{goes_on, is_done, stops}
use Rattle.save_format.proofs.state_text.reading.registers_of.Goals as goal

pub returns-in_err-registers : goal.returns-in_err-registers
returns-in_err-registers c =
    let p = err_from_is_err_and c.from_residual.result c.from_residual.ensures.1 in
    rw (p.1, p.2) (stops (λ (before : Unit {0}). u64) (λ n. tt) tt c.in_err-registers.field-0.0.remaining (take c.loop-index.index c.loop-index.registers) 31 c.loop-index.index c.loop-index.cursor _ c.loop-index-test.true c.in_err-registers.ensures c.loop-index.invariant.read)

pub loop-index-preserved : goal.loop-index-preserved
loop-index-preserved c =
    let lt = c.loop-index-test.true in
    let long = c.loop-index.invariant.long in
    let more : take (c.loop-index.index + 1) (slice_set c.loop-index.registers c.loop-index.index c.in_ok-registers.field-0) ≡ take c.loop-index.index c.loop-index.registers ++ c.in_ok-registers.field-0 ∷ []
    = take_more_set c.loop-index.registers c.loop-index.index c.in_ok-registers.field-0 (omega arith) in
    record {
      long = length-set c.loop-index.registers c.loop-index.index c.in_ok-registers.field-0 ∙ long;
      read = rw more (goes_on (λ (before : Unit {0}). u64) (λ n. tt) tt tt (take c.loop-index.index c.loop-index.registers) 31 c.loop-index.index c.loop-index.cursor c.in_ok-registers.field-0 c.u64.new.self _ lt c.in_ok-registers.ensures refl c.loop-index.invariant.read);
    }

pub returns : goal.returns
returns c =
    let long = c.loop-index.invariant.long in
    let all : take c.loop-index.index c.loop-index.registers ≡ c.loop-index.registers = take_all c.loop-index.index c.loop-index.registers (omega arith) in
    is_done (λ (before : Unit {0}). u64) (λ n. tt) tt (take c.loop-index.index c.loop-index.registers) 31 c.loop-index.index c.loop-index.cursor _ c.loop-index-test.false c.loop-index.invariant.read ∙ ap (λ prefix. Ok (prefix, c.loop-index.cursor)) all
