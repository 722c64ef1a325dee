use Rattle.std.proofs.Common.{◌≤◌, sym, ap, subst}
use Rattle.step_debug.proofs.Positions.{on_the_way, steps_of}
use Rattle.step_debug.proofs.stepping.Session.run_again.Goals as goal

pub repeated-requires-clause-goes : goal.repeated-requires-clause-goes
repeated-requires-clause-goes c =
    on_the_way _ _ _ c.self.invariant c.in-Ok.ensures.answer (subst (λ n. c.args.count ≤ n) (sym (ap (λ s. s.at.steps) c.self.view_is)) c.requires)

pub returns-in-Ok-clause-steps : goal.returns-in-Ok-clause-steps
returns-in-Ok-clause-steps c = steps_of _ _ _ c.in-Ok.ensures.fresh c.repeated.ensures
