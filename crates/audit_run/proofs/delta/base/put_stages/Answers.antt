use Rattle.std.proofs.Common.{sym, subst}
use Rattle.save_format.specs.Seen.{stage_view}
use Rattle.save_format.specs.Encoded.{IsShortStage}
use Rattle.save_format.specs.declared.parts.StagePart.{StagePart}
use Rattle.audit_run.proofs.delta.base.put_stages.Goals as goal

pub put_part-requires : goal.put_part-requires
put_part-requires c = subst (λ (part : StagePart). IsShortStage (stage_view part)) (sym c.stage-item.is) (c.requires.short c.loop-stage.stage-index _ c.loop-stage-test.true)
