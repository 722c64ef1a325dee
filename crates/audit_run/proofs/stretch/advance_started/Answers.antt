use Rattle.std.proofs.Common.{◌-◌, arith, sym, ap, ◌∙◌}
use Rattle.std.proofs.lemmas.Result.{err_from_is_err_and}
use Rattle.audit_rules.specs.Positions.{forward_from}
use Rattle.audit_rules.proofs.Forwards.{forward_from-none, forward_from-sum}
use Rattle.audit_run.proofs.Stretching.{wants-later}
use Rattle.audit_run.proofs.stretch.advance_started.Goals as goal

pub loop-remaining-init : goal.loop-remaining-init
loop-remaining-init c = (omega arith, c.requires.started, c.requires.current, sym (forward_from-none _ _ _ (c.args.most - c.args.most) (omega arith)))

pub loop-remaining-preserved : goal.loop-remaining-preserved
loop-remaining-preserved c = (
  omega (arith, c.loop-remaining.invariant.0),
  c.in_ok-remaining.ensures.started,
  c.in_ok-remaining.ensures.current,
  c.in_ok-remaining.ensures.ok
      ∙ ap (λ from. forward_from c.args.conduct.now.recipe.now c.args.conduct.now.inputs.now from c.in_ok-remaining.field-0) c.loop-remaining.invariant.3
      ∙ forward_from-sum _ _ _ (c.args.most - c.loop-remaining.remaining) c.in_ok-remaining.field-0 (c.args.most - (c.loop-remaining.remaining - c.in_ok-remaining.field-0))
      (omega (arith, c.loop-remaining.invariant.0, c.in_ok-remaining.ensures.most)),
)

pub returns-in_err-remaining-clause-err : goal.returns-in_err-remaining-clause-err
returns-in_err-remaining-clause-err c =
    let p = err_from_is_err_and c.from_residual.result c.from_residual.ensures.1 in
    rw (p.1) (
    wants-later c.args.conduct.now.ended _ _ _ _ _ _ (c.args.most - c.loop-remaining.remaining) c.args.most c.loop-remaining.remaining c.loop-remaining.invariant.3 (omega (arith, c.loop-remaining.invariant.0))
    c.in_err-remaining.ensures.err)
