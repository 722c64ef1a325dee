use Rattle.std.proofs.Common.{◌-◌, ap, subst, arith}
use Rattle.guest_run.specs.Run.{Exited, Runs, Trapped, UnknownCall}
use Rattle.stage_commands.specs.Ends.{needs_last}
use Rattle.stage_commands.proofs.Judging.{says_same}
use Rattle.stage_commands.proofs.Reading.{an_end}
use Rattle.stage_commands.proofs.Stretches.{end_fits}
use Rattle.stage_commands.proofs.ends.ended.Goals as goal

pub overflow_add-step : goal.overflow_add-step
overflow_add-step c =
    let fits = end_fits c.args.last.now c.args.stage.now.steps c.args.guest.now c.args.end c.requires.ends in
    omega (arith, fits, c.requires.few, c.steps-step.ensures.value)

pub returns-in-Exited : goal.returns-in-Exited
returns-in-Exited c =
    let e = c.requires.ends in
    let runs = subst (λ end. Runs e.from (c.args.stage.now.steps - e.from.steps) end c.args.guest.now) c.in-Exited.is e.ends in
    says_same (ap (needs_last c.args.stage.now) (an_end c.args.last.now c.args.stage.now.steps e.from c.args.guest.now (Exited c.in-Exited.status) e.is runs))
    (rw (c.files.ensures, c.steps-step.ensures.value) at c.exited.ensures)

pub returns-in-Trapped : goal.returns-in-Trapped
returns-in-Trapped c =
    let e = c.requires.ends in
    let runs = subst (λ end. Runs e.from (c.args.stage.now.steps - e.from.steps) end c.args.guest.now) c.in-Trapped.is e.ends in
    says_same (ap (needs_last c.args.stage.now) (an_end c.args.last.now c.args.stage.now.steps e.from c.args.guest.now (Trapped c.in-Trapped.cause) e.is runs))
    (rw c.steps-step.ensures.value at c.run_failed.ensures)

pub returns-in-UnknownCall : goal.returns-in-UnknownCall
returns-in-UnknownCall c =
    let e = c.requires.ends in
    let runs = subst (λ end. Runs e.from (c.args.stage.now.steps - e.from.steps) end c.args.guest.now) c.in-UnknownCall.is e.ends in
    says_same (ap (needs_last c.args.stage.now) (an_end c.args.last.now c.args.stage.now.steps e.from c.args.guest.now (UnknownCall c.in-UnknownCall.number) e.is runs))
    (rw c.steps-step.ensures.value at c.run_failed-in-UnknownCall.ensures)
