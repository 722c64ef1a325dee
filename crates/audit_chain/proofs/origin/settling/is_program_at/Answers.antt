use Rattle.std.proofs.Common.{IfOk, ◌≡◌, sym, subst}
use Rattle.audit_chain.specs.Inside.Programs.{program_at}
use Rattle.audit_chain.specs.Settled.{is_of_program}
use Rattle.audit_chain.proofs.Settling.{m1-refused}
use Rattle.audit_chain.proofs.origin.settling.is_program_at.Goals as goal

pub returns-in-Err : goal.returns-in-Err
returns-in-Err c =
    subst (λ language. IfOk c.m1_refused.result (λ own. own ≡ is_of_program c.args.mark.now (program_at language c.args.base c.args.text.now))) (sym c.in-M1.is)
    (m1-refused c.args.mark.now c.args.base _ c.in-Err.refusal _ c.in-Err.ensures c.m1_refused.ensures)
