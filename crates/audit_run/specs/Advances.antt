-- What an advance does. docs/reference/audit.md says the same for people.
use Rattle.std.specs.Prelude.{◌≡◌, ◌<◌, ℕ, Option, None, Some, Result, Ok, Err, List, ◌∷◌, if◌then◌else◌}
use Rattle.ddc_base.specs.declared.byte_list.OutOfMemory.{OutOfMemory}
use Rattle.guest_run.specs.Run.{Next, Goes, Ends, Exited, Trapped, UnknownCall, StepTakesMemory, next}
use Rattle.recipe.specs.declared.contents.RecipeContents.{RecipeContents}
use Rattle.recipe.specs.declared.parts.Stage.{Stage}
use Rattle.report.specs.declared.types.CompareLine.{CompareLine}
use Rattle.audit_rules.specs.declared.answer.AuditAnswer.{AuditAnswer}
use Rattle.audit_rules.specs.declared.answer.AuditAnswer.TheVariants.{Completes, Fails}
use Rattle.audit_rules.specs.declared.answer.StageFault.TheVariants.{Runs, Checks}
use Rattle.audit_rules.specs.Bench.{all_equal}
use Rattle.audit_rules.specs.Positions.{Position, Phase, On, Over, forward_from, todo}
use Rattle.audit_run.specs.Stage.Makes.{Makes}
use Rattle.audit_run.specs.declared.phase.Progress.{Progress}
use Rattle.audit_run.specs.declared.phase.Progress.TheVariants as parsed
use Rattle.audit_run.specs.Seen.{AuditState, phase}

-- what `advance` returns for comparisons, for an answer, and for where an audit stands
abbrev pub progress_of_comparisons : List CompareLine → Progress
progress_of_comparisons lines = if all_equal lines then parsed.Equal else parsed.Differs

abbrev pub progress_of_answer : AuditAnswer → Progress
progress_of_answer (Completes report) = progress_of_comparisons report.compare
progress_of_answer (Fails stage (Runs cause step)) = parsed.RunFailed stage cause step
progress_of_answer (Fails stage (Checks cause)) = parsed.CheckFailed stage cause

abbrev pub progress_of : Phase → Progress
progress_of (On p) = parsed.Paused
progress_of (Over answer) = progress_of_answer answer

-- the next step of a position allocates: the guest's own step does; or its run ends with an artefact, which is checked and kept before the
-- next stage starts or the report is made
abbrev pub WantsBy : Stage → Position → Next → Type 0
WantsBy stage p (Goes to) = StepTakesMemory p.at
WantsBy stage p (Ends (Exited status)) = Makes stage p.done status p.at.world
WantsBy stage p (Ends (Trapped cause)) = ⊥
WantsBy stage p (Ends (UnknownCall number)) = ⊥

abbrev pub Wants : RecipeContents → Position → Type 0
Wants recipe p = (stage : Stage) × (stages : List Stage) × (todo recipe p.done ≡ stage ∷ stages) × WantsBy stage p (next p.at)

-- an advance ran out of memory after fewer steps than requested, at a position whose next step allocates
pub record StopsAt (recipe : RecipeContents) (inputs : List (List ℕ)) (from : Phase) (most : ℕ) (to : Position) : Type 0 where
  pub count : ℕ
  pub fewer : count < most
  pub reached : forward_from recipe inputs from count ≡ On to
  pub wants : Wants recipe to

-- an advance ran out of memory at a position, or at the first stage's start, which leaves the audit as it was
abbrev pub StopsAudit : AuditState → ℕ → Option Phase → Type 0
StopsAudit old most None = old.current ≡ None
StopsAudit old most (Some (On p)) = StopsAt old.recipe old.inputs (phase old) most p
StopsAudit old most (Some (Over answer)) = ⊥

-- an advance by so many steps leads that far and returns where the audit stands then; or memory runs out
abbrev pub Advances : AuditState → ℕ → Progress → Option Phase → Type 0
Advances old most parsed.OutOfMemory new = StopsAudit old most new
Advances old most answer new =
    (new ≡ Some (forward_from old.recipe old.inputs (phase old) most))
    × (answer ≡ progress_of (forward_from old.recipe old.inputs (phase old) most))

-- memory runs out where such an advance may stop
abbrev pub WantsWithin : AuditState → ℕ → Type 0
WantsWithin old most = (stops : Option Phase) × StopsAudit old most stops

-- the audit this many steps later, or at its end; or memory ran out on the way
abbrev pub IsAdvanced : AuditState → ℕ → Result AuditState OutOfMemory → Type 0
IsAdvanced old most (Ok audit) =
    audit ≡ record { recipe = old.recipe; inputs = old.inputs; current = Some (forward_from old.recipe old.inputs (phase old) most) }
IsAdvanced old most (Err error) = WantsWithin old most
