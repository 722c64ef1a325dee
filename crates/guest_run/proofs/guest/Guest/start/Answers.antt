use Rattle.std.proofs.Common.{sym}
use Rattle.guest_run.proofs.Starting.{no_program}
use Rattle.guest_run.proofs.guest.Guest.start.Goals as goal

pub returns-in-Err-clause-answer : goal.returns-in-Err-clause-answer
returns-in-Err-clause-answer g c = no_program c.args.program.now c.args.setting.now c.in-Err.refusal (sym c.in-Err.ensures.value)
