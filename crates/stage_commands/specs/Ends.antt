-- `ends RECIPE STAGE PREFIX COUNT`: checks that the first saved state is the stage's start, and reports how the run after the last one
-- ends. docs/reference/command-line.md and docs/reference/segments.md say the same for people.
use Rattle.std.specs.Prelude.{ℕ, ◌+◌, ◌-◌, Option, None, Some, Result, Ok, Err, List, [], ◌∷◌, length, slice_get, if◌then◌else◌}
use Rattle.ddc_base.specs.Difference.{first_difference}
use Rattle.ddc_base.specs.Limits.{most_state}
use Rattle.guest_run.specs.Run.{End}
use Rattle.guest_run.specs.Start.{Refusal}
use Rattle.guest_run.specs.State.{GuestState}
use Rattle.recipe.specs.declared.parts.Stage.{Stage}
use Rattle.audit_rules.specs.Stages.{contents, finished, start_cause, start_stage}
use Rattle.audit_rules.specs.declared.cause.RunCause.TheVariants as run
use Rattle.segments.specs.Faults.{state_fault_number}
use Rattle.segments.specs.Segments.{second_text}
use Rattle.segments.specs.declared.answers.StateFault.{StateFault}
use Rattle.command_plan.specs.declared.status.Status.TheVariants.{Yes, Refuted}
use Rattle.command_plan.specs.Plan.{Plan, answers, needs, unless_refused}
use Rattle.command_plan.specs.Words.{or_usage, usage}
use Rattle.stage_commands.specs.Exits.{run_ended, run_failed}
use Rattle.stage_commands.specs.Names.{are_stage_words, as_states, piece_name}
use Rattle.stage_commands.specs.Ready.{needs_ready}
use Rattle.stage_commands.specs.States.{end_after, state_parsed}
use Rattle.stage_commands.specs.Texts.{other_first_line, refuted_first_line, refuted_last_line, run_record}
use Rattle.stage_commands.specs.declared.ready.Ready.{Ready}

-- the first state must be that in which the stage starts
abbrev pub unless_other_start : Option ℕ → Plan → Plan
unless_other_start None next = next
unless_other_start (Some offset) next = answers Refuted (other_first_line offset)

abbrev pub needs_first : Stage → Result GuestState Refusal → Result GuestState StateFault → Plan → Plan
needs_first stage (Err why) read next = run_failed stage (run.Start (start_cause why)) 0
needs_first stage (Ok start) (Err why) next = answers Refuted (refuted_first_line (state_fault_number why))
needs_first stage (Ok start) (Ok first) next = unless_other_start (first_difference (second_text start) (second_text first)) next

-- the run after the last state, within the stage's limit: its record if it left the stage's output, or else why it failed
abbrev pub last_reported : Stage → Option (End × GuestState) → Plan
last_reported stage (Some (end, guest)) =
    run_ended stage end guest (λ made. answers Yes (run_record stage.name (finished (guest.steps + 1) guest.world made)))
last_reported stage None = run_failed stage run.Spent stage.steps

abbrev pub needs_last : Stage → Result (Option (End × GuestState)) StateFault → Plan
needs_last stage ended = unless_refused ended (λ why. answers Refuted (refuted_last_line (state_fault_number why))) (last_reported stage)

-- both texts are judged by the stage after the finished ones
unfoldable pub ends_judged : Ready → List ℕ → List ℕ → Plan
ends_judged ready first last =
    or_usage (slice_get ready.recipe.stages (length ready.done)) (λ stage.
    needs_first stage (start_stage ready.recipe (contents ready.inputs ready.done) stage) (state_parsed first)
    (needs_last stage (end_after last stage.steps)))

-- loads the first text and then the last one, each of at most 4,294,967,296 bytes
unfoldable pub ends_files : List ℕ → List ℕ → List ℕ → ℕ → Plan
ends_files recipe stage prefix count =
    needs_ready recipe stage prefix (λ ready.
    needs (piece_name prefix 0) most_state (λ first.
    needs (piece_name prefix (count - 1)) most_state (λ last.
    ends_judged ready first last)))

-- the plan for the words after `ends`
abbrev pub ends_plan : List (List ℕ) → Plan
ends_plan (recipe ∷ stage ∷ prefix ∷ count ∷ []) =
    or_usage (as_states count) (λ states. if are_stage_words recipe stage prefix then ends_files recipe stage prefix states else usage)
ends_plan _ = usage
