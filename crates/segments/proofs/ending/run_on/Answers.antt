use Rattle.std.proofs.Common.{◌-◌, inl, inr, subst, sym, ap, ◌∙◌, arith}
use Rattle.guest_run.specs.Run.{first_end, Runs}
use Rattle.segments.specs.Segments.{IsRunsEnd}
use Rattle.segments.proofs.ending.run_on.Goals as goal

pub returns-then-limit-first : goal.returns-then-limit-first
returns-then-limit-first c = record { from = c.args.guest; is = c.requires; over = inl (omega (arith, c.steps-first.ensures.value, c.if-limit-first.true)) }

pub returns-in-Spent : goal.returns-in-Spent
returns-in-Spent c = record {
  from = c.args.guest;
  is = c.requires;
  over = inr (ap (λ n. first_end c.args.guest (c.args.limit - n)) (sym c.steps-first.ensures.value) ∙ c.in-Spent.ensures.answer.0);
}

pub returns-in-Exited : goal.returns-in-Exited
returns-in-Exited c = record {
  from = c.args.guest;
  is = c.requires;
  below = omega (arith, c.steps-first.ensures.value);
  end = subst IsRunsEnd (sym c.in-Exited.is) tt;
  ends = subst (λ n. Runs c.args.guest (c.args.limit - n) c.run-end.result c.run-end.new.self) c.steps-first.ensures.value c.run-end.ensures.answer;
}

pub returns-in-Trapped : goal.returns-in-Trapped
returns-in-Trapped c = record {
  from = c.args.guest;
  is = c.requires;
  below = omega (arith, c.steps-first.ensures.value);
  end = subst IsRunsEnd (sym c.in-Trapped.is) tt;
  ends = subst (λ n. Runs c.args.guest (c.args.limit - n) c.run-end.result c.run-end.new.self) c.steps-first.ensures.value c.run-end.ensures.answer;
}

pub returns-in-UnknownCall : goal.returns-in-UnknownCall
returns-in-UnknownCall c = record {
  from = c.args.guest;
  is = c.requires;
  below = omega (arith, c.steps-first.ensures.value);
  end = subst IsRunsEnd (sym c.in-UnknownCall.is) tt;
  ends = subst (λ n. Runs c.args.guest (c.args.limit - n) c.run-end.result c.run-end.new.self) c.steps-first.ensures.value c.run-end.ensures.answer;
}
