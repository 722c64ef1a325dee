use Rattle.std.proofs.Common.{◌∙◌, sym, ap, arith}
use Rattle.rv64_machine.specs.Hart.{is_stop}
use Rattle.guest_run.proofs.Going.{all_taken, begins, over, stands_on, stops, went_on}
use Rattle.guest_run.proofs.run.Process.run.Goals as goal

pub loop-self-init : goal.loop-self-init
loop-self-init g c = (begins _ _ _ _ (omega arith), omega arith, c.requires.heap_of)

pub returns-in-Some : goal.returns-in-Some
returns-in-Some g c = over _ _ _ _ _ c.loop-self.invariant.0 _ c.in-Some.end c.in-Some.ensures.steps

pub returns-then-is_at : goal.returns-then-is_at
returns-then-is_at g c =
    stops _ _ _ _ _ c.loop-self.invariant.0 _ c.in_default.ensures.steps
    (ap (is_stop c.args.stop) (sym c.pc.ensures.value) ∙ sym c.is_at.ensures ∙ c.if-is_at.true)

pub loop-self-smaller : goal.loop-self-smaller
loop-self-smaller g c =
    let on = went_on _ _ _ _ _ c.loop-self.invariant.0 _ c.in_default.ensures.steps in
    omega (arith, on.1, c.loop-self-test.true)

pub loop-self-preserved : goal.loop-self-preserved
loop-self-preserved g c =
    let inv = c.loop-self.invariant in
    let on = went_on _ _ _ _ _ inv.0 _ c.in_default.ensures.steps in (
      stands_on _ _ _ _ _ inv.0 _ _ c.in_default.ensures.steps (ap (is_stop c.args.stop) (sym c.pc.ensures.value) ∙ sym c.is_at.ensures ∙ c.if-is_at.false) (omega (arith, inv.1)),
      omega (arith, inv.1, on.2),
      c.in_default.ensures.kept,
    )

pub returns : goal.returns
returns g c = all_taken _ _ _ _ _ c.loop-self.invariant.0 (omega (arith, c.loop-self.invariant.1, c.loop-self-test.false))
