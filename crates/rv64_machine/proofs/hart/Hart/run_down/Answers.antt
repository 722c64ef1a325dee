use Rattle.std.proofs.Common.{◌≡◌, refl, sym, ap, ◌∙◌, ◌-◌, ◌%◌, arith, inr, Some}
use Rattle.std.proofs.lemmas.Bool.{ne_eqb}
use Rattle.rv64_machine.specs.Hart.{passed}
use Rattle.rv64_machine.proofs.Acts.{is_equal, passed-none, passed-on}
use Rattle.rv64_machine.proofs.hart.Hart.run_down.Goals as goal

pub loop-remaining-init : goal.loop-remaining-init
loop-remaining-init g c = (omega arith, ap (passed (Some c.args.stop) c.args.self.now) (omega arith) ∙ passed-none _ _, λ address. refl)

pub loop-remaining-preserved : goal.loop-remaining-preserved
loop-remaining-preserved g c = (
  omega (arith, c.loop-remaining.invariant.0),
  ap (passed (Some c.args.stop) c.args.self.now) (omega (arith, c.loop-remaining.invariant.0, c.loop-remaining-test.true))
      ∙ passed-on (Some c.args.stop) c.args.self.now c.loop-remaining.self c.step.new.self (c.args.most - c.loop-remaining.remaining) c.loop-remaining.invariant.1 c.in-Done.ensures.act
      (ne_eqb c.step.new.self.pc c.args.stop (λ e. c.if-pc-stop.false (c.pc.ensures.value ∙ e))),
  λ address. c.in-Done.ensures.mapping address ∙ c.loop-remaining.invariant.2 address,
)

pub returns-then-pc-stop-clause-acts : goal.returns-then-pc-stop-clause-acts
returns-then-pc-stop-clause-acts g c =
    let same : c.step.new.self.pc ≡ c.args.stop = sym c.pc.ensures.value ∙ c.if-pc-stop.true in
    inr (
      record {
        before = c.args.most - c.loop-remaining.remaining;
        last = c.loop-remaining.self;
        counted = omega (arith, c.loop-remaining.invariant.0, c.loop-remaining-test.true);
        few = omega (arith, c.loop-remaining.invariant.0, c.loop-remaining-test.true);
        passes = c.loop-remaining.invariant.1;
        arrives = c.in-Done.ensures.act;
        stands = is_equal c.step.new.self.pc c.args.stop same;
      },
      omega (arith, c.loop-remaining.invariant.0, c.loop-remaining-test.true),
      ap (λ n. n % 4) (sym same) ∙ c.pc.ensures.hart.aligned,
    )
