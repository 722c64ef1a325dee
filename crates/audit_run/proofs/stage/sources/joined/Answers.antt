use Rattle.std.proofs.Common.{◌++◌, [], ◌∷◌, sym, ap, ◌∙◌, arith}
use Rattle.audit_rules.specs.Contents.{content}
use Rattle.audit_rules.specs.Stages.{contents}
use Rattle.audit_run.proofs.StageLemmas.Joining.{joined-first, joined-more}
use Rattle.audit_run.proofs.stage.sources.joined.Goals as goal
use Rattle.audit_run.proofs.stage.sources.joined.Goals.{then-index-gt0+in_ok-push, else-index-gt0}

pub loop-index-preserved : goal.loop-index-preserved
loop-index-preserved c =
    elim c.if-index-gt0.branch [
      | then-index-gt0+in_ok-push w ↦
          c.in_ok-extend.ensures.ok
          ∙ ap (λ text. text ++ c.content.result.now) (w.text-is ∙ w.in_ok-push.ensures.ok)
          ∙ (λ i. (c.loop-index.invariant i ++ 10 ∷ []) ++ c.content.ensures i)
          ∙ sym (joined-more (content c.args.so_far.now.recipe.now (contents c.args.so_far.now.inputs.now c.args.so_far.now.done.now)) c.args.names.now c.loop-index.index c.index-names-index.result
          (omega (arith, w.if-index-gt0.true)) c.loop-index-test.true c.index-names-index.is)
      | else-index-gt0 w ↦
          c.in_ok-extend.ensures.ok
          ∙ ap (λ text. text ++ c.content.result.now) w.text-is
          ∙ (λ i. c.loop-index.invariant i ++ c.content.ensures i)
          ∙ sym (joined-first (content c.args.so_far.now.recipe.now (contents c.args.so_far.now.inputs.now c.args.so_far.now.done.now)) c.args.names.now c.loop-index.index c.index-names-index.result
          (omega (arith, w.if-index-gt0.false)) c.loop-index-test.true c.index-names-index.is)
    ]
