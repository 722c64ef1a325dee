use Rattle.std.proofs.Common.{ap}
use Rattle.std.proofs.lemmas.Result.{err_from_is_err_and}
use Rattle.audit_rules.specs.Positions.{forward_from}
use Rattle.audit_run.specs.Seen.{AuditState, phase}
use Rattle.command_plan.proofs.Performing.{wants_memory}
use Rattle.audit_commands.specs.Inside.Keeping.{Keeps}
use Rattle.audit_commands.proofs.going.go_on.Goals as goal

pub settle-requires-clause-current : goal.settle-requires-clause-current
settle-requires-clause-current g c =
    let old = c.args.audit in
    (forward_from old.recipe old.inputs (phase old) c.count.result, ap (λ (a : AuditState). a.current) c.in_ok-audit.ensures)

pub settle-requires-clause-keeps : goal.settle-requires-clause-keeps
settle-requires-clause-keeps g c = rw c.in_ok-audit.ensures c.requires

pub returns-in_err-audit : goal.returns-in_err-audit
returns-in_err-audit g c = λ text keeps.
    let e = err_from_is_err_and c.from_residual.result c.from_residual.ensures.1 in
    rw (e.1, e.2) (wants_memory _ _)

pub returns : goal.returns
returns g c = λ text keeps.
    let old = c.args.audit in
    let new = c.in_ok-audit.audit in
    let there = forward_from old.recipe old.inputs (phase old) c.count.result in
    let kept : Keeps new.recipe new.inputs c.args.kept text = rw c.in_ok-audit.ensures keeps in
    rw (c.in_ok-audit.ensures, c.count.ensures.value) at (c.settle.ensures there text (ap (λ (a : AuditState). a.current) c.in_ok-audit.ensures) kept)
