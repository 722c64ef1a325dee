use Rattle.std.proofs.Common.{sym, subst}
use Rattle.audit_rules.specs.declared.answer.Finished.{Finished}
use Rattle.save_format.specs.Encoded.{IsShortStage}
use Rattle.audit_run.specs.Save.Saves.{stage_of}
use Rattle.audit_run.proofs.save.writing.put_done.Goals as goal

pub put_one-requires : goal.put_one-requires
put_one-requires c = subst (λ (f : Finished). IsShortStage (stage_of f)) (sym c.stage-item.is) (c.requires.short c.loop-stage.stage-index _ c.loop-stage-test.true)
