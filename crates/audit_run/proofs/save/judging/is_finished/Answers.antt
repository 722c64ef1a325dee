use Rattle.std.proofs.Common.{refl}
use Rattle.audit_run.proofs.SaveLemmas.Judged.{is_done}
use Rattle.audit_run.proofs.save.judging.is_finished.Goals as goal

pub returns : goal.returns
returns c = (
  λ t.
      is_done c.args.stage.now c.args.done.now c.finished-finished.result.now c.as_slice.result.now c.made.result.now c.finished-finished.ensures c.as_slice.ensures c.made.ensures
      (c.if-not-are_steps.ensures.0 refl) (c.if-not-is_small.ensures.0 refl) (c.if-not-is_small-2.ensures.0 refl) (c.if-not-are_left.ensures.0 refl) (c.if-not-is_content.ensures.0 refl)
      (c.has_mark.ensures.0 t),
  λ is. c.has_mark.ensures.1 is.output,
)
