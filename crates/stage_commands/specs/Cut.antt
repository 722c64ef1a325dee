-- `cut RECIPE STAGE EVERY PREFIX`: saves states along a stage's run. docs/reference/command-line.md and docs/reference/segments.md say the
-- same for people.
use Rattle.std.specs.Prelude.{ℕ, zero, suc, ◌+◌, ◌-◌, Option, None, Some, Result, Ok, Err, List, [], ◌∷◌, length, min, nat_lt, slice_get, if◌then◌else◌}
use Rattle.ddc_base.specs.Limits.{most_states}
use Rattle.guest_run.specs.Run.{End, first_end}
use Rattle.guest_run.specs.Start.{Refusal}
use Rattle.guest_run.specs.State.{GuestState}
use Rattle.recipe.specs.declared.parts.Stage.{Stage}
use Rattle.audit_rules.specs.Stages.{contents, start_cause, start_stage}
use Rattle.audit_rules.specs.declared.cause.RunCause.TheVariants as run
use Rattle.segments.specs.Segments.{second_text}
use Rattle.command_plan.specs.declared.status.Status.TheVariants.{Yes, TooManySegments}
use Rattle.command_plan.specs.Plan.{Plan, answers, sets}
use Rattle.command_plan.specs.Words.{as_steps, or_usage, usage}
use Rattle.stage_commands.specs.Exits.{run_ended, run_failed}
use Rattle.stage_commands.specs.Names.{are_stage_words, piece_name}
use Rattle.stage_commands.specs.Ready.{needs_ready}
use Rattle.stage_commands.specs.States.{state_after}
use Rattle.stage_commands.specs.Texts.{cut_line, too_many_line}
use Rattle.stage_commands.specs.declared.ready.Ready.{Ready}

-- the number of steps after a saved state: EVERY, but not beyond the stage's limit
abbrev pub next_steps : Stage → ℕ → GuestState → ℕ
next_steps stage every guest = min every (stage.steps - guest.steps)

-- after so many saved states the run ended, or it continues from the state that it reached unless that is at the limit
abbrev pub came_on : Stage → ℕ → Option (End × GuestState) → GuestState → (GuestState → Plan) → Plan
came_on stage saved (Some (end, guest)) to next = run_ended stage end guest (λ _. answers Yes (cut_line saved (guest.steps + 1)))
came_on stage saved None to next = if nat_lt to.steps stage.steps then next to else run_failed stage run.Spent stage.steps

-- saves the present state under the name of its number, and then those along the run, at most so many in all
unfoldable pub saved_from : Stage → ℕ → List ℕ → ℕ → ℕ → GuestState → Plan
saved_from stage every prefix zero number guest = answers TooManySegments too_many_line
saved_from stage every prefix (suc left) number guest =
    sets (piece_name prefix number) (second_text guest)
    (came_on stage (number + 1) (first_end guest (next_steps stage every guest)) (state_after guest (next_steps stage every guest))
    (λ to. saved_from stage every prefix left (number + 1) to))

-- starts the stage, and saves at most 1,000 states of its run
abbrev pub cut_from : Stage → ℕ → List ℕ → Result GuestState Refusal → Plan
cut_from stage every prefix (Ok guest) = saved_from stage every prefix most_states 0 guest
cut_from stage every prefix (Err why) = run_failed stage (run.Start (start_cause why)) 0

-- cuts the run of the stage after the finished ones
unfoldable pub cut_ready : ℕ → List ℕ → Ready → Plan
cut_ready every prefix ready =
    or_usage (slice_get ready.recipe.stages (length ready.done)) (λ stage.
    cut_from stage every prefix (start_stage ready.recipe (contents ready.inputs ready.done) stage))

unfoldable pub cut_files : List ℕ → List ℕ → ℕ → List ℕ → Plan
cut_files recipe stage every prefix = needs_ready recipe stage prefix (cut_ready every prefix)

-- the plan for the words after `cut`
abbrev pub cut_plan : List (List ℕ) → Plan
cut_plan (recipe ∷ stage ∷ every ∷ prefix ∷ []) =
    or_usage (as_steps every) (λ steps. if are_stage_words recipe stage prefix then cut_files recipe stage steps prefix else usage)
cut_plan _ = usage
