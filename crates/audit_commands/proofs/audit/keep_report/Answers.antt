use Rattle.audit_commands.specs.Audit.{completed}
use Rattle.audit_commands.proofs.audit.keep_report.Goals as goal

pub returns : goal.returns
unfolding completed
returns g c = rw (c.as_slice-2.ensures, c.in_ok-text.ensures.value, c.in_ok-answer.ensures.status, c.in_ok-answer.ensures.text, c.as_slice.ensures) at c.keep.ensures
