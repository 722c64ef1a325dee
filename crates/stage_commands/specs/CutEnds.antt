-- How a cut ends, defined without the loop that saves the states. docs/reference/segments.md says the same for people.
use Rattle.std.specs.Prelude.{◌≡◌, ℕ, ◌+◌, ◌*◌, ◌/◌, Option, None, Some, min, nat_le, if◌then◌else◌}
use Rattle.ddc_base.specs.Limits.{most_states}
use Rattle.guest_run.specs.Run.{End, first_end}
use Rattle.guest_run.specs.State.{GuestState}
use Rattle.recipe.specs.declared.parts.Stage.{Stage}
use Rattle.audit_rules.specs.declared.cause.RunCause.TheVariants as run
use Rattle.command_plan.specs.declared.status.Status.TheVariants.{TooManySegments, Yes}
use Rattle.command_plan.specs.Plan.{Outcome, Plan, answers}
use Rattle.stage_commands.specs.Exits.{run_ended, run_failed}
use Rattle.stage_commands.specs.Texts.{cut_line, too_many_line}

-- The run ends within 1,000 times EVERY steps and the stage's limit, and one state was saved for each EVERY steps before. Otherwise the
-- limit is exhausted, or 1,000 states are too few
abbrev pub cut_end : Stage → ℕ → Option (End × GuestState) → Plan
cut_end stage every (Some (end, guest)) = run_ended stage end guest (λ _. answers Yes (cut_line (guest.steps / every + 1) (guest.steps + 1)))
cut_end stage every None = if nat_le stage.steps (most_states * every) then run_failed stage run.Spent stage.steps else answers TooManySegments too_many_line

abbrev pub cut_end_from : Stage → ℕ → GuestState → Plan
cut_end_from stage every begun = cut_end stage every (first_end begun (min (most_states * every) stage.steps))

-- two outcomes with one status and one text
pub record SaysSame (came other : Outcome) : Type 0 where
  pub status : came.status ≡ other.status
  pub text : came.text ≡ other.text
