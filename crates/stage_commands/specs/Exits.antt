-- How the run of a stage ended, where no artefact is checked. docs/reference/segments.md says the same for people.
use Rattle.std.specs.Prelude.{ℕ, ◌+◌, ◌==◌, Option, Some, None, Result, Ok, Err, List, if◌then◌else◌}
use Rattle.mem_files.specs.Outputs.{out}
use Rattle.mem_files.specs.World.{World}
use Rattle.guest_run.specs.Run.{End, Exited, Trapped, UnknownCall}
use Rattle.guest_run.specs.State.{GuestState}
use Rattle.recipe.specs.declared.parts.Stage.{Stage}
use Rattle.audit_rules.specs.Stages.{output_of}
use Rattle.audit_rules.specs.declared.cause.RunCause.{RunCause}
use Rattle.audit_rules.specs.declared.cause.RunCause.TheVariants as run
use Rattle.command_plan.specs.declared.status.Status.TheVariants.{RunFailed}
use Rattle.command_plan.specs.Plan.{Plan, answers, unless_refused}
use Rattle.recipe_plan.specs.NotDone.{run_failed_line}

-- the answer to a stage's run that left no output
abbrev pub run_failed : Stage → RunCause → ℕ → Plan
run_failed stage cause step = answers RunFailed (run_failed_line stage.name cause step)

-- the contents of the stage's output after an exit, or why it left no output
abbrev pub unless_absent : Option (List ℕ) → Result (List ℕ) RunCause
unless_absent None = Err run.NoOutput
unless_absent (Some made) = Ok made

abbrev pub output_left : Stage → ℕ → World → Result (List ℕ) RunCause
output_left stage status world = if status == 0 then unless_absent (out world (output_of stage.output)) else Err (run.Status status)

-- an exit with 0 that left the stage's output continues, and every other end is answered; the end's own step is counted too
abbrev pub run_ended : Stage → End → GuestState → (List ℕ → Plan) → Plan
run_ended stage (Exited status) guest next =
    unless_refused (output_left stage status guest.world) (λ cause. run_failed stage cause (guest.steps + 1)) next
run_ended stage (Trapped cause) guest next = run_failed stage (run.Trap cause) (guest.steps + 1)
run_ended stage (UnknownCall number) guest next = run_failed stage (run.Call number) (guest.steps + 1)
