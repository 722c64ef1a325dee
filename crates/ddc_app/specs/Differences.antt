-- An audit in segments after one whole save, of which only the difference from that save is kept: the outcomes of `delta-start` and
-- `delta-resume`, compared with the undivided `audit`. docs/reference/command-line.md says the same for people.
use Rattle.std.specs.Prelude.{◌≡◌, ◌≢◌, ℕ, ◌⊎◌, IsTrue, List, [], ◌∷◌, Some, codes, decimal, sum, if◌then◌else◌}
use Rattle.std.specs.FinMap as map
use Rattle.ddc_base.specs.Outside.{NamedFiles}
use Rattle.audit_run.specs.Delta.Deltas.{delta_text_of}
use Rattle.audit_rules.specs.Positions as positions
use Rattle.audit_rules.specs.Positions.{Position, On}
use Rattle.command_plan.specs.declared.status.Status.TheVariants.{Paused}
use Rattle.command_plan.specs.Plan.{Outcome, outcome}
use Rattle.command_plan.specs.Words.{are_two_files}
use Rattle.ddc_app.specs.Accepting.{audit}
use Rattle.ddc_app.specs.Commands.{plan_of}
use Rattle.ddc_app.specs.Pausing.{AreSame, AreWords, IsSavedAt, in_turn, is_paused, part}

-- the outcomes of `delta-start RECIPE BASE PATCH REPORT STEPS` and `delta-resume RECIPE BASE PATCH REPORT STEPS` on these files
abbrev pub delta_start : List ℕ → List ℕ → List ℕ → List ℕ → ℕ → NamedFiles → Outcome
delta_start recipe base patch report steps files =
    outcome (plan_of (codes "delta-start" ∷ recipe ∷ base ∷ patch ∷ report ∷ decimal steps ∷ [])) files

abbrev pub delta_resume : List ℕ → List ℕ → List ℕ → List ℕ → ℕ → NamedFiles → Outcome
delta_resume recipe base patch report steps files =
    outcome (plan_of (codes "delta-resume" ∷ recipe ∷ base ∷ patch ∷ report ∷ decimal steps ∷ [])) files

-- ---- the conditions on words and files

-- Words without a usage answer: with BASE and with PATCH they name three files. Neither BASE nor PATCH is an input of a recipe that the
-- files hold, and the two do not name the same file
pub record AreDeltaWords (recipe base patch report : List ℕ) (files : NamedFiles) : Type 0 where
  pub with_base : AreWords recipe base report files
  pub with_patch : AreWords recipe patch report files
  pub apart : IsTrue (are_two_files base patch)

-- the files hold a save as BASE, as `IsSavedAt` says, and as PATCH the delta of the position after `count` steps against it
pub record IsSavedRelative (recipe base patch : List ℕ) (files : NamedFiles) (first count : ℕ) : Type 0 where
  pub whole : IsSavedAt recipe base files first
  pub position : Position
  pub current : positions.position whole.parsed whole.inputs count ≡ On position
  pub delta_held : map.get files patch ≡ Some (delta_text_of whole.parsed whole.inputs whole.position position)

-- ---- the outcomes of the segments

-- a segment pauses after so many steps in all, or has the status, text and REPORT of the undivided audit
abbrev pub DeltaPieces : List ℕ → List ℕ → List ℕ → List ℕ → NamedFiles → ℕ → ℕ → Outcome → Type 0
DeltaPieces recipe base patch report files first count piece =
    ((piece.status ≡ Paused) × IsSavedRelative recipe base patch piece.files first count) ⊎ AreSame report piece (audit recipe report files)

-- after a whole save: `delta-start`, and then `delta-resume` as long as the audit pauses
abbrev pub after_save : List ℕ → List ℕ → List ℕ → List ℕ → Outcome → List ℕ → Outcome
after_save recipe base patch report piece [] = piece
after_save recipe base patch report piece (steps ∷ counts) =
    if is_paused piece.status then in_turn (delta_resume recipe base patch report) (delta_start recipe base patch report steps piece.files) counts else piece

-- an audit by differences: `part`, whose save is BASE, then `delta-start`, and then `delta-resume`
abbrev pub in_differences : List ℕ → List ℕ → List ℕ → List ℕ → ℕ → List ℕ → NamedFiles → Outcome
in_differences recipe base patch report steps counts files = after_save recipe base patch report (part recipe base report steps files) counts

-- what such an audit has kept: after its first segment the whole save, and after further ones that save and a delta
abbrev pub AreKept : List ℕ → List ℕ → List ℕ → NamedFiles → ℕ → List ℕ → Type 0
AreKept recipe base patch files first [] = IsSavedAt recipe base files first
AreKept recipe base patch files first (steps ∷ counts) = IsSavedRelative recipe base patch files first (sum (first ∷ steps ∷ counts))

-- an audit by differences pauses after all its steps, or has the status, text and REPORT of the undivided audit
abbrev pub Differences : List ℕ → List ℕ → List ℕ → List ℕ → NamedFiles → ℕ → List ℕ → Outcome → Type 0
Differences recipe base patch report files first counts piece =
    ((piece.status ≡ Paused) × AreKept recipe base patch piece.files first counts) ⊎ AreSame report piece (audit recipe report files)

-- no name but these three is changed
abbrev pub LeavesAllBut : List ℕ → List ℕ → List ℕ → NamedFiles → Outcome → Type 0
LeavesAllBut base patch report files piece = (name : List ℕ) → name ≢ base → name ≢ patch → name ≢ report
    → map.get piece.files name ≡ map.get files name
