use Rattle.std.proofs.Common.{refl}
use Rattle.std.proofs.lemmas.Result.{err_from_is_err_and}
use Rattle.save_format.specs.SaveText.{saved_stage_at}
use Rattle.save_format.proofs.ByteFieldsLemmas.Loop.{sets_out, went_on, went_past, went_wrong}
use Rattle.save_format.proofs.fields.pass_several.Goals as goal

pub loop-init : goal.loop-init
loop-init c = sets_out saved_stage_at (λ stage. 0) 0 c.args.count _

pub returns-in_err-pass_stage : goal.returns-in_err-pass_stage
returns-in_err-pass_stage c =
    let p = err_from_is_err_and c.from_residual.result c.from_residual.ensures.1 in
    rw (p.1, p.2) (went_wrong saved_stage_at (λ stage. 0) 0 c.in_err-pass_stage.field-0.0.remaining c.args.count c.loop.counter c.loop.cursor _ c.loop-test.true c.in_err-pass_stage.ensures c.loop.invariant)

pub loop-preserved : goal.loop-preserved
loop-preserved c = went_on saved_stage_at (λ stage. 0) 0 0 c.args.count c.loop.counter c.loop.cursor c.in_ok-pass_stage.ensures.0 c.pass_stage.new.cursor _ c.loop-test.true c.in_ok-pass_stage.ensures.1 refl c.loop.invariant

pub returns : goal.returns
returns c = went_past saved_stage_at (λ stage. 0) 0 c.args.count c.loop.counter c.loop.cursor _ c.loop-test.false c.loop.invariant
