use Rattle.std.proofs.Common.{ℕ, List, Err, subst}
use Rattle.audit_run.specs.Saved.{ResumesAudit}
use Rattle.command_plan.proofs.Obtaining.{stops_with}
use Rattle.audit_commands.proofs.Reading.{goes_on, refuses, wants}
use Rattle.audit_commands.proofs.resume.audit_at.Goals as goal

pub returns-in-Ok : goal.returns-in-Ok
returns-in-Ok c = λ shelf. goes_on c.args.supplied.recipe c.args.supplied.inputs c.args.text shelf c.in-Ok.audit (rw c.as_slice.ensures at c.in-Ok.ensures.exact)

pub returns-in_err-refuse-in-Err : goal.returns-in_err-refuse-in-Err
returns-in_err-refuse-in-Err c = λ shelf.
    stops_with c.from_residual.ensures.1 (wants c.args.supplied.recipe c.args.supplied.inputs c.args.text shelf c.in-Err.refusal _ c.in_err-refuse-in-Err.ensures)

pub returns : goal.returns
returns c = λ shelf.
    refuses c.args.supplied.recipe c.args.supplied.inputs c.args.text shelf c.in-Err.refusal _
    (subst (λ (text : List ℕ). ResumesAudit c.args.supplied.recipe c.args.supplied.inputs text (Err c.in-Err.refusal)) c.as_slice.ensures c.in-Err.ensures.exact) c.in_ok-refuse-in-Err.ensures
