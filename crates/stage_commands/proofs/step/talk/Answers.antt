use Rattle.std.proofs.Common.{refl}
use Rattle.command_plan.proofs.Obtaining.{ends_before, holds_here, holds_with, stops_holding}
use Rattle.stage_commands.proofs.step.talk.Goals as goal

pub returns-in_err-session : goal.returns-in_err-session
returns-in_err-session g c = λ shelf. stops_holding c.from_residual.ensures.1 (ends_before (c.in_err-session.ensures shelf))

pub returns : goal.returns
returns g c = λ shelf. holds_with (c.in_ok-session.ensures shelf) (holds_here _ _ _ _ _ _ _ _ refl c.converse.ensures)
