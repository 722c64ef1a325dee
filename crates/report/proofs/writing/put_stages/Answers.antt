use Rattle.std.proofs.Common.{refl}
use Rattle.std.specs.List.{flat_map}
use Rattle.std.proofs.lemmas.List.{drop_all}
use Rattle.report.specs.Reports.{stage_block}
use Rattle.report.specs.Lines.{line_words}
use Rattle.report.proofs.Written.{writes_more, writes_all}
use Rattle.report.proofs.writing.put_stages.Goals as goal

pub loop-stage-preserved : goal.loop-stage-preserved
loop-stage-preserved c =
    writes_more line_words (flat_map stage_block) stage_block (λ x xs. refl) c.args.out.now c.args.stages.now c.loop-stage.stage-index c.stage-item.result c.loop-stage.out c.put_stage.new.out
    c.loop-stage-test.true c.stage-item.is c.loop-stage.invariant c.in_ok-put_stage.ensures

pub returns : goal.returns
returns c = writes_all line_words (flat_map stage_block) refl c.args.out.now c.args.stages.now c.loop-stage.stage-index c.loop-stage.out (drop_all c.loop-stage.stage-index c.args.stages.now c.loop-stage-test.false) c.loop-stage.invariant
