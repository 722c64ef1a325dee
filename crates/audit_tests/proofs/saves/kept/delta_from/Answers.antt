use Rattle.std.proofs.Common.{sym, subst}
use Rattle.audit_run.specs.Seen.{AuditState}
use Rattle.audit_run.specs.Delta.Deltas.{IsBaseAt}
use Rattle.audit_tests.proofs.saves.kept.delta_from.Goals as goal

pub delta_after-text-requires-clause-base : goal.delta_after-text-requires-clause-base
delta_after-text-requires-clause-base c =
    let found = c.in-Ok.ensures.found in
    (found.0, subst (λ (audit : AuditState). IsBaseAt audit.recipe audit.inputs found.0 c.args.base.now) (sym found.1) (found.2, found.3))
