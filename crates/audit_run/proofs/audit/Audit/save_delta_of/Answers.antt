use Rattle.std.proofs.Common.{ℕ, List, sym, subst}
use Rattle.audit_run.specs.Seen.{AuditState}
use Rattle.audit_run.specs.Delta.Deltas.{IsBaseAt}
use Rattle.audit_run.proofs.audit.Audit.save_delta_of.Goals as goal

pub write-requires-clause-base : goal.write-requires-clause-base
write-requires-clause-base c =
    let b = c.requires.base.0 in (
      b,
      subst (λ (inputs : List (List ℕ)). IsBaseAt c.self.inside.recipe inputs b c.args.base.now) (sym c.as_slice.ensures)
          (subst (λ (audit : AuditState). IsBaseAt audit.recipe audit.inputs b c.args.base.now) (sym c.self.view_is) c.requires.base.1),
    )
