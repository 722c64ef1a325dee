-- Positions of an audit, and its steps. docs/reference/audit.md says the same for people.
use Rattle.std.specs.Prelude.{ℕ, zero, suc, ◌-◌, nat_lt, if◌then◌else◌, Result, Ok, Err, List, [], ◌∷◌, ◌++◌, length, drop}
use Rattle.guest_run.specs.State.{GuestState}
use Rattle.guest_run.specs.Start.{Refusal}
use Rattle.guest_run.specs.Run.{Next, Goes, Ends, first_end, next}
use Rattle.recipe.specs.declared.contents.RecipeContents.{RecipeContents}
use Rattle.recipe.specs.declared.parts.Stage.{Stage}
use Rattle.audit_rules.specs.declared.answer.AuditAnswer.{AuditAnswer}
use Rattle.audit_rules.specs.declared.answer.AuditAnswer.TheVariants.{Completes, Fails}
use Rattle.audit_rules.specs.declared.answer.StageFault.{StageFault}
use Rattle.audit_rules.specs.declared.answer.StageFault.TheVariants.{Runs}
use Rattle.audit_rules.specs.declared.answer.Finished.{Finished}
use Rattle.audit_rules.specs.declared.cause.RunCause.TheVariants as run
use Rattle.audit_rules.specs.Stages.{by_end, contents, ending, start_cause, start_stage}
use Rattle.audit_rules.specs.Bench.{after_stage, bench_from, bench_report}

-- a position: the stages that are done, and the guest of the next one
pub record Position : Type 0 where
  pub done : List Finished
  pub at : GuestState

-- where an audit stands: at a position, or it is over
pub data Phase : Type 0 where
  On : Position → Phase
  Over : AuditAnswer → Phase

abbrev pub at : List Finished → GuestState → Position
at done guest = record { done = done; at = guest }

-- the stages that are not done
abbrev pub todo : RecipeContents → List Finished → List Stage
todo recipe done = drop (length done) recipe.stages

-- the first of the stages that are left starts, or its start fails and the audit is over
abbrev pub entered : List Finished → Result GuestState Refusal → Phase
entered done (Ok guest) = On (at done guest)
entered done (Err why) = Over (Fails (suc (length done)) (Runs (run.Start (start_cause why)) 0))

abbrev pub enter : RecipeContents → List (List ℕ) → List Finished → List Stage → Phase
enter recipe inputs done [] = Over (Completes (bench_report recipe inputs done))
enter recipe inputs done (stage ∷ stages) = entered done (start_stage recipe (contents inputs done) stage)

-- a stage's run has ended: the next stage is entered, or the audit is over
abbrev pub stage_closed : RecipeContents → List (List ℕ) → List Finished → List Stage → Result Finished StageFault → Phase
stage_closed recipe inputs done stages (Ok f) = enter recipe inputs (done ++ f ∷ []) stages
stage_closed recipe inputs done stages (Err fault) = Over (Fails (suc (length done)) fault)

-- the guest continues; a step that reaches the stage's limit exhausts it, and the audit is over
abbrev pub went : List Finished → Stage → GuestState → Phase
went done stage guest =
    if nat_lt guest.steps stage.steps then On (at done guest)
    else Over (Fails (suc (length done)) (Runs run.Spent stage.steps))

abbrev pub moved : RecipeContents → List (List ℕ) → Position → Stage → List Stage → Next → Phase
moved recipe inputs p stage stages (Goes guest) = went p.done stage guest
moved recipe inputs p stage stages (Ends end) = stage_closed recipe inputs p.done stages (ending recipe inputs p.done stage end p.at)

abbrev pub step_among : RecipeContents → List (List ℕ) → Position → List Stage → Phase
step_among recipe inputs p [] = On p
step_among recipe inputs p (stage ∷ stages) = moved recipe inputs p stage stages (next p.at)

-- one step of the present guest. The step that ends its run includes the stage's check and the next stage's start, or the comparison
unfoldable pub step : RecipeContents → List (List ℕ) → Position → Phase
step recipe inputs p = step_among recipe inputs p (todo recipe p.done)

abbrev pub onward : Phase → (Position → Phase) → Phase
onward (On p) next = next p
onward (Over answer) next = Over answer

-- where the audit stands this many steps after a position; once it is over, its answer stays
unfoldable pub forward : RecipeContents → List (List ℕ) → Position → ℕ → Phase
forward recipe inputs p zero = On p
forward recipe inputs p (suc count) = onward (forward recipe inputs p count) (step recipe inputs)

-- where the audit stands this many steps later, from a position or an answer
abbrev pub forward_from : RecipeContents → List (List ℕ) → Phase → ℕ → Phase
forward_from recipe inputs from count = onward from (λ p. forward recipe inputs p count)

-- the beginning: the first stage's start, which belongs to no step
abbrev pub beginning : RecipeContents → List (List ℕ) → Phase
beginning recipe inputs = enter recipe inputs [] recipe.stages

-- where an audit stands after so many steps
abbrev pub position : RecipeContents → List (List ℕ) → ℕ → Phase
position recipe inputs count = forward_from recipe inputs (beginning recipe inputs) count

-- the answer that a position leads to: the present run continues to its end or its stage's limit, then the other stages run
abbrev pub continue_among : RecipeContents → List (List ℕ) → Position → List Stage → AuditAnswer
continue_among recipe inputs p [] = Completes (bench_report recipe inputs p.done)
continue_among recipe inputs p (stage ∷ stages) =
    after_stage (suc (length p.done)) (by_end recipe inputs p.done stage (first_end p.at (stage.steps - p.at.steps)))
    (λ f. bench_from recipe inputs (p.done ++ f ∷ []) stages)

unfoldable pub continue : RecipeContents → List (List ℕ) → Position → AuditAnswer
continue recipe inputs p = continue_among recipe inputs p (todo recipe p.done)

-- the final answer, from a position or from an answer
abbrev pub finish : RecipeContents → List (List ℕ) → Phase → AuditAnswer
finish recipe inputs (On p) = continue recipe inputs p
finish recipe inputs (Over answer) = answer
