use Rattle.std.proofs.Common.{◌&&◌, ◌∙◌, Some, refl, ap}
use Rattle.report.specs.declared.types.LeftLine.{LeftLine}
use Rattle.std.specs.Option.{option_copied}
use Rattle.std.proofs.lemmas.Result.{err_from_is_err_and}
use Rattle.save_format.specs.SaveText.{after_left, saved_left_at}
use Rattle.save_format.proofs.ByteFieldsLemmas.Loop.{stops}
use Rattle.save_format.proofs.DeltaTextLemmas.Relative.{is_past, sets_out, went_on}
use Rattle.save_format.proofs.delta_text.passing.pass_lefts.Goals as goal

pub loop-index-init : goal.loop-index-init
loop-index-init c = sets_out c.args.known.now c.args.count _

pub returns-in_err-name : goal.returns-in_err-name
returns-in_err-name c =
    let p = err_from_is_err_and c.from_residual.result c.from_residual.ensures.1 in
    let b = c.loop-index.invariant in
    rw (p.1, p.2) (stops saved_left_at after_left (option_copied c.loop-index.last) c.in_err-name.field-0.0.remaining b.prefix c.args.count c.loop-index.index c.loop-index.cursor _ c.loop-index-test.true c.in_err-name.ensures b.read)

pub loop-index-preserved : goal.loop-index-preserved
loop-index-preserved c =
    let line : LeftLine = record { name = c.in_ok-name.name.now; mark = c.in_ok-name.mark } in
    rw c.are_both-same.ensures
    (went_on c.args.known.now c.loop-index.index c.args.count c.loop-index.same c.is_left_at.result (option_copied c.loop-index.last) (Some c.in_ok-name.name.now) c.loop-index.cursor c.line_of.new.cursor line _ c.loop-index-test.true
    c.in_ok-name.ensures refl c.is_left_at.ensures c.loop-index.invariant)

pub returns : goal.returns
returns c =
    let p = is_past c.args.known.now c.loop-index.index c.args.count c.loop-index.same (option_copied c.loop-index.last) c.loop-index.cursor _ c.loop-index-test.false c.loop-index.auto.index-end c.loop-index.invariant in
    (p.0, p.1, c.are_both.ensures ∙ ap (λ b. c.loop-index.same && b) c.is_reached.ensures ∙ p.2)
