use Rattle.std.proofs.Common.{sym}
use Rattle.std.proofs.lemmas.Result.{err_from_is_err_and}
use Rattle.save_format.specs.StateText.StateText.{after_run, run_at}
use Rattle.save_format.proofs.ByteFieldsLemmas.Loop.{stops}
use Rattle.save_format.proofs.StateTextLemmas.Mapped.{sets_out, went_on, went_past}
use Rattle.save_format.proofs.state_text.mapping.runs_mappable.Goals as goal

pub loop-init : goal.loop-init
loop-init c = rw c.in_ok-count.ensures (sets_out c.in_ok-count.count _)

pub returns-in_err-run : goal.returns-in_err-run
returns-in_err-run c =
    let p = err_from_is_err_and c.from_residual-in_err-run.result c.from_residual-in_err-run.ensures.1 in
    rw (p.1, p.2) (stops run_at after_run c.loop.least c.in_err-run.field-0.0.remaining c.loop.invariant.prefix c.in_ok-count.count c.loop.counter c.loop.cursor _ c.loop-test.true c.in_err-run.ensures c.loop.invariant.read)

pub loop-preserved : goal.loop-preserved
loop-preserved c = went_on c.loop.remaining _ c.loop.least _ c.in_ok-count.count c.loop.counter c.loop.cursor _ c.in_ok-run.run' _ c.loop-test.true c.in_ok-run.ensures (sym c.least_after-least.ensures) c.remaining_after-remaining.ensures c.loop.invariant

pub returns : goal.returns
returns c = went_past c.loop.remaining c.loop.least c.in_ok-count.count c.loop.counter c.loop.cursor _ c.is_some.result c.loop-test.false c.is_some.ensures c.loop.invariant
