-- What the start of a stage and the judgements of both ends come to.
use Rattle.std.proofs.Common.{◌≡◌, ℕ, Some, None, Result, Ok, Err, List, length, sym, ap, ◌∙◌, subst}
use Rattle.std.specs.Prelude.{slice_get}
use Rattle.ddc_base.proofs.Differences.{first_difference-same}
use Rattle.guest_run.specs.Setting.{Setting}
use Rattle.guest_run.specs.Start.{Refusal, start_of}
use Rattle.guest_run.specs.State.{GuestState}
use Rattle.recipe.specs.declared.parts.Stage.{Stage}
use Rattle.audit_rules.specs.Stages.{contents, start_cause, start_stage}
use Rattle.audit_rules.specs.declared.cause.RunCause.TheVariants as run
use Rattle.audit_rules.specs.declared.cause.StartCause.{StartCause}
use Rattle.audit_rules.specs.declared.cause.StartCause.TheVariants as start
use Rattle.audit_run.specs.Stage.Begins.{Begins}
use Rattle.segments.specs.Faults.{start_refusal_of, state_fault_number}
use Rattle.segments.specs.Segments.{BeginsOtherwise, BeginsWith, IsNoState, second_text}
use Rattle.segments.specs.declared.answers.StartFault.{StartFault}
use Rattle.segments.specs.declared.answers.StateFault.{StateFault}
use Rattle.ddc_base.specs.Outside.{ShelfState}
use Rattle.command_plan.specs.Performs.{Performs}
use Rattle.command_plan.specs.declared.answer.Answer.{Answer}
use Rattle.command_plan.specs.declared.stop.Stop.{Stop}
use Rattle.command_plan.specs.declared.status.Status.TheVariants.{Refuted}
use Rattle.command_plan.specs.Plan.{Plan, answers}
use Rattle.command_plan.specs.Steps.{Says}
use Rattle.command_plan.specs.Words.{or_usage, usage}
use Rattle.stage_commands.specs.Cut.{cut_from, cut_ready}
use Rattle.stage_commands.specs.Ends.{ends_judged, needs_first, needs_last, unless_other_start}
use Rattle.stage_commands.specs.Exits.{run_failed}
use Rattle.stage_commands.specs.States.{end_after, state_parsed}
use Rattle.stage_commands.specs.Texts.{other_first_line, refuted_first_line}
use Rattle.stage_commands.specs.declared.ready.Ready.{Ready}
use Rattle.stage_commands.proofs.Reading.{is_read}

-- one plan is said where the same plan is
pub says_same : {plan other : Plan} {result : Result Answer Stop} → plan ≡ other → Says other result → Says plan result
says_same {result = result} is answered = subst (λ p. Says p result) (sym is) answered

pub performs_same : {plan other : Plan} {old new : ShelfState} {result : Result Answer Stop} → plan ≡ other → Performs other old new result → Performs plan old new result
performs_same {old = old} {new} {result} is performed = subst (λ p. Performs p old new result) (sym is) performed

-- ---- the stage after those that are done

module _ (every : ℕ) (prefix : List ℕ) (ready : Ready) where
  pub cut_none : slice_get ready.recipe.stages (length ready.done) ≡ None → cut_ready every prefix ready ≡ usage
  unfolding cut_ready
  cut_none none = ap (λ f. or_usage f (λ stage. cut_from stage every prefix (start_stage ready.recipe (contents ready.inputs ready.done) stage))) none

  pub cut_one : (stage : Stage) → slice_get ready.recipe.stages (length ready.done) ≡ Some stage
      → cut_ready every prefix ready ≡ cut_from stage every prefix (start_stage ready.recipe (contents ready.inputs ready.done) stage)
  unfolding cut_ready
  cut_one stage there = ap (λ f. or_usage f (λ stage. cut_from stage every prefix (start_stage ready.recipe (contents ready.inputs ready.done) stage))) there

-- a start that is refused
pub cut_refused : (stage : Stage) (every : ℕ) (prefix : List ℕ) (meant : Result GuestState Refusal) (cause : StartCause) → Begins meant (Err cause)
    → cut_from stage every prefix meant ≡ run_failed stage (run.Start cause) 0
cut_refused stage every prefix meant (start.Elf refusal) is = ap (cut_from stage every prefix) is
cut_refused stage every prefix meant start.ArgsTooLong is = ap (cut_from stage every prefix) is
cut_refused stage every prefix meant start.BoxTooLarge is = ap (cut_from stage every prefix) is

module _ (ready : Ready) (first last : List ℕ) where
  pub judged_none : slice_get ready.recipe.stages (length ready.done) ≡ None → ends_judged ready first last ≡ usage
  unfolding ends_judged
  judged_none none =
      ap (λ f. or_usage f (λ stage. needs_first stage (start_stage ready.recipe (contents ready.inputs ready.done) stage) (state_parsed first) (needs_last stage (end_after last stage.steps)))) none

  pub judged_one : (stage : Stage) → slice_get ready.recipe.stages (length ready.done) ≡ Some stage
      → ends_judged ready first last ≡ needs_first stage (start_stage ready.recipe (contents ready.inputs ready.done) stage) (state_parsed first) (needs_last stage (end_after last stage.steps))
  unfolding ends_judged
  judged_one stage there =
      ap (λ f. or_usage f (λ stage. needs_first stage (start_stage ready.recipe (contents ready.inputs ready.done) stage) (state_parsed first) (needs_last stage (end_after last stage.steps)))) there

-- ---- the first text

module _ (stage : Stage) (program : List ℕ) (setting : Setting) (text : List ℕ) (next : Plan) where
  abbrev pub judged_first : Plan
  judged_first = needs_first stage (start_of program setting) (state_parsed text) next

  pub starts_there : BeginsWith program setting text → judged_first ≡ next
  starts_there b =
      (λ i. needs_first stage (b.starts i) (is_read text (Ok b.guest) b.is i) next)
      ∙ ap (λ difference. unless_other_start difference next) (first_difference-same (second_text b.guest))

  pub starts_elsewhere : (offset : ℕ) → BeginsOtherwise program setting text offset → judged_first ≡ answers Refuted (other_first_line offset)
  starts_elsewhere offset b =
      (λ i. needs_first stage (b.starts i) (is_read text (Ok b.other) b.is i) next)
      ∙ ap (λ difference. unless_other_start difference next) b.differs

  pub says_no_state : (why : StateFault) → ((guest : GuestState) × (start_of program setting ≡ Ok guest)) × IsNoState text why
      → judged_first ≡ answers Refuted (refuted_first_line (state_fault_number why))
  says_no_state why (begun, none) = λ i. needs_first stage (begun.1 i) (is_read text (Err why) none i) next

  pub starts_not : (why : StartFault) (cause : StartCause) → start_of program setting ≡ Err (start_refusal_of why) → start_cause (start_refusal_of why) ≡ cause
      → judged_first ≡ run_failed stage (run.Start cause) 0
  starts_not why cause refused same = ap (λ r. needs_first stage r (state_parsed text) next) refused ∙ ap (λ c. run_failed stage (run.Start c) 0) same
