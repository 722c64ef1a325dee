use Rattle.std.proofs.Common.{None, Some, refl}
use Rattle.std.specs.Option.{option_copied}
use Rattle.std.proofs.lemmas.Result.{err_from_is_err_and}
use Rattle.report.specs.declared.types.LeftLine.{LeftLine}
use Rattle.save_format.specs.SaveText.{after_left, saved_left_at}
use Rattle.save_format.proofs.ByteFieldsLemmas.Loop.{sets_out, went_on, went_past, went_wrong}
use Rattle.save_format.proofs.fields.pass_left.Goals as goal

pub loop-init : goal.loop-init
loop-init c = sets_out saved_left_at after_left None c.args.count _

pub returns-in_err-name : goal.returns-in_err-name
returns-in_err-name c =
    let p = err_from_is_err_and c.from_residual.result c.from_residual.ensures.1 in
    rw (p.1, p.2) (went_wrong saved_left_at after_left (option_copied c.loop.last) c.in_err-name.field-0.0.remaining c.args.count c.loop.counter c.loop.cursor _ c.loop-test.true c.in_err-name.ensures c.loop.invariant)

pub loop-preserved : goal.loop-preserved
loop-preserved c =
    let line : LeftLine = record { name = c.in_ok-name.name.now; mark = c.in_ok-name._mark } in
    went_on saved_left_at after_left (option_copied c.loop.last) (Some c.in_ok-name.name.now) c.args.count c.loop.counter c.loop.cursor line c.line_of.new.cursor _ c.loop-test.true c.in_ok-name.ensures refl c.loop.invariant

pub returns : goal.returns
returns c = went_past saved_left_at after_left (option_copied c.loop.last) c.args.count c.loop.counter c.loop.cursor _ c.loop-test.false c.loop.invariant
