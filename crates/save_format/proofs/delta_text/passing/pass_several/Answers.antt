use Rattle.std.proofs.Common.{None, refl}
use Rattle.std.specs.Option.{option_copied}
use Rattle.std.specs.Prelude.{option_map}
use Rattle.std.proofs.lemmas.Result.{err_from_is_err_and}
use Rattle.save_format.specs.DeltaText.Stages.{after_further, further_at}
use Rattle.save_format.specs.Seen.{stage_view}
use Rattle.save_format.proofs.ByteFieldsLemmas.Loop.{sets_out, went_on, went_past, went_wrong}
use Rattle.save_format.proofs.delta_text.passing.pass_several.Goals as goal

pub loop-init : goal.loop-init
loop-init c = rw c.in_ok-count.ensures (sets_out further_at after_further (option_map stage_view (option_copied c.args.known)) c.in_ok-count.count _)

pub returns-in_err-pass_further : goal.returns-in_err-pass_further
returns-in_err-pass_further c =
    let p = err_from_is_err_and c.from_residual-in_err-pass_further.result c.from_residual-in_err-pass_further.ensures.1 in
    rw (p.1, p.2) (went_wrong further_at after_further (option_map stage_view (option_copied c.loop.relative)) c.in_err-pass_further.field-0.0.remaining c.in_ok-count.count c.loop.counter c.loop.cursor _ c.loop-test.true c.in_err-pass_further.ensures c.loop.invariant)

pub loop-preserved : goal.loop-preserved
loop-preserved c = went_on further_at after_further (option_map stage_view (option_copied c.loop.relative)) None c.in_ok-count.count c.loop.counter c.loop.cursor c.in_ok-pass_further.ensures.0 c.pass_further.new.cursor _ c.loop-test.true c.in_ok-pass_further.ensures.1 refl c.loop.invariant

pub returns : goal.returns
returns c = went_past further_at after_further (option_map stage_view (option_copied c.loop.relative)) c.in_ok-count.count c.loop.counter c.loop.cursor _ c.loop-test.false c.loop.invariant
