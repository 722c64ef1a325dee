use Rattle.std.proofs.Common.{arith}
use Rattle.verifier.proofs.Ends.{exited, exits, no-end, other-step, trapped, unknown}
use Rattle.guest_run.specs.Run.{Exited}
use Rattle.verifier.proofs.replay.run_to.Goals as goal

pub returns-then-status-ne0-clause-value : goal.returns-then-status-ne0-clause-value
returns-then-status-ne0-clause-value c = exited c.args.guest.now _ c.args.step c.in-Exited.status c.in-Exited.ensures.answer c.requires.fresh (λ e. absurd (omega arith))

pub returns-then-steps-step-clause-value : goal.returns-then-steps-step-clause-value
returns-then-steps-step-clause-value c = other-step c.args.guest.now _ c.args.step (Exited c.in-Exited.status) c.in-Exited.ensures.answer c.requires.fresh (λ e. absurd (omega arith))

pub returns-else-steps-step-clause-value : goal.returns-else-steps-step-clause-value
returns-else-steps-step-clause-value c = exits c.args.guest.now _ c.args.step c.in-Exited.status c.in-Exited.ensures.answer c.requires.fresh (omega arith) (omega arith)

pub returns-in-Trapped-clause-value : goal.returns-in-Trapped-clause-value
returns-in-Trapped-clause-value c = trapped c.args.guest.now _ c.args.step c.in-Trapped.field-0 c.in-Trapped.ensures.answer c.requires.fresh

pub returns-in-UnknownCall-clause-value : goal.returns-in-UnknownCall-clause-value
returns-in-UnknownCall-clause-value c = unknown c.args.guest.now _ c.args.step c.in-UnknownCall.field-0 c.in-UnknownCall.ensures.answer c.requires.fresh

pub returns-in-Spent-clause-value : goal.returns-in-Spent-clause-value
returns-in-Spent-clause-value c = no-end c.args.guest.now c.args.step c.in-Spent.ensures.answer.0
