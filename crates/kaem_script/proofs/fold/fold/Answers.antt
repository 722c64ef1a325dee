use Rattle.std.proofs.Common.{[], ◌∷◌, ap, length, arith, length-append, subst, sym, All}
use Rattle.std.proofs.lemmas.List.Elements.{All-nil, All-push}
use Rattle.report.specs.Script.Reports.{IsCommandLine}
use Rattle.kaem_script.proofs.Folding.{begins, goes_on, stops, wants}
use Rattle.kaem_script.proofs.WellFormed.{good-line}
use Rattle.kaem_script.specs.Inside.Commands.{world_in}
use Rattle.kaem_script.proofs.fold.fold.Goals as goal

pub loop-index-init : goal.loop-index-init
loop-index-init c = record {
  going = begins c.args.most _ c.args.files.now c.args.commands.now c.new-lines.ensures;
  good = subst (All IsCommandLine) (sym c.new-lines.ensures) (All-nil IsCommandLine);
  count = ap length c.new-lines.ensures;
}

pub loop-index-preserved : goal.loop-index-preserved
loop-index-preserved c =
    let run = rw c.in-Ok-Ok.field-0-is at c.in-Ok-Ok.ensures.comes in
    let pushed = c.in-Ok.ensures.ok in
    let line = good-line c.args.most (world_in c.loop-index.present) c.in-Ok-Ok.left c.index-commands-index.result c.in-Ok-Ok.line c.requires.few c.show_sound.ensures run in
    record {
      going = goes_on c.args.most c.args.files.now c.args.commands.now c.loop-index.index c.loop-index.lines (world_in c.loop-index.present) c.loop-index.invariant.going
          c.push.new.self c.in-Ok-Ok.line c.in-Ok-Ok.left c.index-commands-index.result c.loop-index-test.true c.index-commands-index.is run pushed;
      good = subst (All IsCommandLine) (sym pushed) (All-push IsCommandLine c.loop-index.lines c.in-Ok-Ok.line c.loop-index.invariant.good line);
      count = omega (arith, ap length pushed, length-append c.loop-index.lines (c.in-Ok-Ok.line ∷ []), c.loop-index.invariant.count);
    }

pub returns-in-Err-push-clause-memory : goal.returns-in-Err-push-clause-memory
returns-in-Err-push-clause-memory c =
    wants c.args.most c.args.files.now c.args.commands.now c.loop-index.index c.loop-index.lines (world_in c.loop-index.present) c.loop-index.invariant.going
    c.index-commands-index.result c.loop-index-test.true c.index-commands-index.is (rw c.in-Ok-Ok.field-0-is at c.in-Ok-Ok.ensures.program)

pub returns-in-Err-clause-memory : goal.returns-in-Err-clause-memory
returns-in-Err-clause-memory c =
    wants c.args.most c.args.files.now c.args.commands.now c.loop-index.index c.loop-index.lines (world_in c.loop-index.present) c.loop-index.invariant.going
    c.index-commands-index.result c.loop-index-test.true c.index-commands-index.is c.in-Err.ensures.program

pub returns-in-Ok-Err-clause-folds : goal.returns-in-Ok-Err-clause-folds
returns-in-Ok-Err-clause-folds c =
    stops c.args.most c.args.files.now c.args.commands.now c.loop-index.index c.loop-index.lines (world_in c.loop-index.present) c.loop-index.invariant.going
    c.index-commands-index.result (c.in-Ok-Err.cause, c.in-Ok-Err.step) c.loop-index-test.true c.index-commands-index.is (rw c.in-Ok-Err.field-0-is at c.in-Ok-Err.ensures.comes)
