-- Where the parts of an audit stand.
use Rattle.std.specs.Prelude.{◌≡◌, ◌≤◌, ◌+◌, ◌-◌, ℕ, Option, None, Some, Result, Ok, Err, List, [], ◌∷◌, ◌++◌, length, drop}
use Rattle.ddc_base.specs.declared.byte_list.OutOfMemory.{OutOfMemory}
use Rattle.guest_run.specs.State.{GuestState}
use Rattle.recipe.specs.declared.contents.RecipeContents.{RecipeContents}
use Rattle.recipe.specs.declared.parts.Stage.{Stage}
use Rattle.audit_rules.specs.declared.answer.Finished.{Finished}
use Rattle.audit_rules.specs.Positions.{Position, Phase, On, Over, at, beginning, stage_closed, forward}
use Rattle.audit_rules.specs.Valid.{AreDone, IsInputs, IsPhase}
use Rattle.audit_run.specs.declared.phase.AuditPhase.{AuditPhase}
use Rattle.audit_run.specs.declared.phase.AuditPhase.TheVariants as audit
use Rattle.audit_run.specs.declared.phase.EndedGuest.{EndedGuest}
use Rattle.audit_run.specs.declared.phase.EndedGuest.TheVariants.{Kept, GivenUp}
use Rattle.audit_run.specs.declared.phase.Moved.{Moved}
use Rattle.audit_run.specs.declared.phase.Moved.TheVariants as moved
use Rattle.audit_run.specs.declared.phase.Progress.{Progress}
use Rattle.audit_run.specs.declared.phase.Progress.TheVariants as progress
use Rattle.audit_run.specs.Advances.{progress_of_answer, StopsAt, Wants}

abbrev pub seen : List Finished → AuditPhase → Option Phase
seen done audit.Ready = None
seen done (audit.Running guest) = Some (On (at done guest))
seen done (audit.Over answer) = Some (Over answer)

abbrev pub current : RecipeContents → List (List ℕ) → List Finished → AuditPhase → Phase
current recipe inputs done audit.Ready = beginning recipe inputs
current recipe inputs done (audit.Running guest) = On (at done guest)
current recipe inputs done (audit.Over answer) = Over answer

-- the stages after the present one
abbrev pub later : RecipeContents → List Finished → List Stage
later recipe done = drop (length done + 1) recipe.stages

-- what a slice of a stage's run means
abbrev pub SlicesBy : RecipeContents → List (List ℕ) → List Finished → List Stage → GuestState → ℕ → Moved → GuestState → Type 0
SlicesBy recipe inputs done stages old taken moved.Goes new = forward recipe inputs (at done old) taken ≡ On (at done new)
SlicesBy recipe inputs done stages old taken (moved.Ended (Ok f)) new =
    (forward recipe inputs (at done old) taken ≡ stage_closed recipe inputs done stages (Ok f))
    × (forward recipe inputs (at done old) (taken - 1) ≡ On (at done new)) × Wants recipe (at done new) × AreDone recipe (done ++ f ∷ [])
SlicesBy recipe inputs done stages old taken (moved.Ended (Err fault)) new =
    forward recipe inputs (at done old) taken ≡ stage_closed recipe inputs done stages (Err fault)

abbrev pub Slices : RecipeContents → List (List ℕ) → List Finished → List Stage → GuestState → ℕ → Result (ℕ × Moved) OutOfMemory → GuestState → Type 0
Slices recipe inputs done stages old most (Ok step) new =
    SlicesBy recipe inputs done stages old step.0 step.1 new × (1 ≤ step.0) × (step.0 ≤ most)
Slices recipe inputs done stages old most (Err error) new = StopsAt recipe inputs (On (at done old)) most (at done new)

-- the invariant of the parts between two calls: before the first advance no stage is done
abbrev pub IsPhaseAfter : RecipeContents → List Finished → AuditPhase → Type 0
IsPhaseAfter recipe done audit.Ready = done ≡ []
IsPhaseAfter recipe done (audit.Running guest) = IsPhase recipe (On (at done guest))
IsPhaseAfter recipe done (audit.Over answer) = IsPhase recipe (Over answer)

pub record IsAtRest (recipe : RecipeContents) (inputs : List (List ℕ)) (done : List Finished) (where_it_is : AuditPhase) : Type 0 where
  pub given : IsInputs recipe inputs
  pub phase : IsPhaseAfter recipe done where_it_is

-- an audit whose first stage has started, or whose start was refused
abbrev pub IsStarted : AuditPhase → Type 0
IsStarted audit.Ready = ⊥
IsStarted (audit.Running guest) = Unit {0}
IsStarted (audit.Over answer) = Unit {0}

-- what becomes of the guest of a finished stage
abbrev pub KeepsPhase : EndedGuest → AuditPhase → AuditPhase → Type 0
KeepsPhase Kept old new = new ≡ old
KeepsPhase GivenUp old new = Unit {0}

-- an audit that has started ran out of memory at this position
abbrev pub StopsIn : RecipeContents → List (List ℕ) → Phase → ℕ → Phase → Type 0
StopsIn recipe inputs from most (On p) = StopsAt recipe inputs from most p
StopsIn recipe inputs from most (Over answer) = ⊥

-- the state after out of memory, after fewer steps than requested: an audit at that position, if guests are kept
abbrev pub WantsAfter : EndedGuest → RecipeContents → List (List ℕ) → Phase → ℕ → List Finished → AuditPhase → Type 0
WantsAfter Kept recipe inputs from most done where_it_is =
    IsStarted where_it_is × IsPhaseAfter recipe done where_it_is × StopsIn recipe inputs from most (current recipe inputs done where_it_is)
WantsAfter GivenUp recipe inputs from most done where_it_is = (p : Position) × StopsAt recipe inputs from most p

-- what `advance` returns for an audit that stands here
abbrev pub SaysOf : AuditPhase → Progress → Type 0
SaysOf audit.Ready given = ⊥
SaysOf (audit.Running guest) given = given ≡ progress.Paused
SaysOf (audit.Over answer) given = given ≡ progress_of_answer answer
