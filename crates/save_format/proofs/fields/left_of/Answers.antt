use Rattle.std.proofs.Common.{◌≡◌, ◌++◌, ◌∷◌, [], Some, refl}
use Rattle.std.specs.Option.{option_copied}
use Rattle.std.proofs.lemmas.Result.{err_from_is_err_and}
use Rattle.report.specs.declared.types.LeftLine.{LeftLine}
use Rattle.save_format.specs.SaveText.{after_left, saved_left_at}
use Rattle.save_format.proofs.ByteFieldsLemmas.Loop.{goes_on, is_done, stops}
use Rattle.save_format.proofs.fields.left_of.Goals as goal

pub returns-in_err-name : goal.returns-in_err-name
returns-in_err-name c =
    let p = err_from_is_err_and c.from_residual.result c.from_residual.ensures.1 in
    rw (p.1, p.2) (stops saved_left_at after_left (option_copied c.loop.last) c.in_err-name.field-0.0.remaining c.loop.lines c.args.count c.loop.counter c.loop.cursor _ c.loop-test.true c.in_err-name.ensures c.loop.invariant)

pub loop-preserved : goal.loop-preserved
loop-preserved c =
    let line : LeftLine = record { name = c.in_ok-name.name.now; mark = c.in_ok-name.mark } in
    let more : c.push.new.self ≡ c.loop.lines ++ line ∷ [] = cc (c.in_ok-push.ensures.ok, c.in_ok-from_slice.ensures) in
    rw more (goes_on saved_left_at after_left (option_copied c.loop.last) (Some c.in_ok-name.name.now) c.loop.lines c.args.count c.loop.counter c.loop.cursor line c.line_of.new.cursor _ c.loop-test.true c.in_ok-name.ensures refl c.loop.invariant)

pub returns : goal.returns
returns c = is_done saved_left_at after_left (option_copied c.loop.last) c.loop.lines c.args.count c.loop.counter c.loop.cursor _ c.loop-test.false c.loop.invariant
