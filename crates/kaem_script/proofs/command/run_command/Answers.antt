use Rattle.std.proofs.Common.{sym, subst}
use Rattle.std.specs.Prelude.{IfOk}
use Rattle.kaem_script.specs.Inside.Commands.{Comes}
use Rattle.kaem_script.proofs.Folding.{unless-stopped}
use Rattle.kaem_script.proofs.command.run_command.Goals as goal

pub returns-in-Ok-clause-comes : goal.returns-in-Ok-clause-comes
returns-in-Ok-clause-comes c =
    let is = rw (c.in-Ok.is, c.files_in.ensures) at (c.in_ok-guest.ensures.begins c.args.most) in
    subst (λ m. IfOk c.run_over.result (Comes m)) (sym is) c.run_over.ensures

pub returns-in-Ok-clause-program : goal.returns-in-Ok-clause-program
returns-in-Ok-clause-program c = unless-stopped c.run_over.result (rw (c.in-Ok.is, c.files_in.ensures) at c.in_ok-guest.ensures.program)

pub returns-in-Err-clause-comes : goal.returns-in-Err-clause-comes
returns-in-Err-clause-comes c = rw (c.in-Err.is, c.files_in.ensures) at (c.in_ok-guest.ensures.begins c.args.most)

pub returns-in_err-guest-clause-program : goal.returns-in_err-guest-clause-program
returns-in_err-guest-clause-program c = unless-stopped c.from_residual.result (rw c.files_in.ensures at c.in_err-guest.ensures.program)
