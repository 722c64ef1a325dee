-- An audit in segments: the outcomes of `part` and `resume`, compared with the undivided `audit`. docs/reference/command-line.md says the
-- same for people.
use Rattle.std.specs.Prelude.{◌≡◌, ◌≢◌, ℕ, ◌≤◌, ◌⊎◌, Bool, true, false, IsTrue, List, [], ◌∷◌, Ok, Some, codes, decimal, if◌then◌else◌}
use Rattle.std.specs.FinMap as map
use Rattle.ddc_base.specs.declared.outside.Loaded.TheVariants.{Bytes}
use Rattle.ddc_base.specs.Outside.{NamedFiles, loaded}
use Rattle.ddc_base.specs.Limits.{most_content, most_inputs, most_recipe, most_steps}
use Rattle.recipe.specs.Reading.{recipe_of}
use Rattle.recipe.specs.declared.contents.RecipeContents.{RecipeContents}
use Rattle.save_format.specs.Encoded.{text_of_save}
use Rattle.audit_run.specs.Save.Saves.{save_of}
use Rattle.audit_rules.specs.Positions as positions
use Rattle.audit_rules.specs.Positions.{Position, On}
use Rattle.command_plan.specs.declared.status.Status.{Status}
use Rattle.command_plan.specs.declared.status.Status.TheVariants.{Paused}
use Rattle.command_plan.specs.Words.{are_three_files}
use Rattle.command_plan.specs.Plan.{Outcome, outcome}
use Rattle.recipe_plan.specs.Recipes.{is_input, paths}
use Rattle.ddc_app.specs.Accepting.{audit}
use Rattle.ddc_app.specs.Commands.{plan_of}
use Rattle.ddc_app.specs.Holding.{AreHeld}

-- the outcomes of `part RECIPE SAVE REPORT STEPS` and `resume RECIPE SAVE REPORT STEPS` on these files
abbrev pub part : List ℕ → List ℕ → List ℕ → ℕ → NamedFiles → Outcome
part recipe save report steps files = outcome (plan_of (codes "part" ∷ recipe ∷ save ∷ report ∷ decimal steps ∷ [])) files

abbrev pub resume : List ℕ → List ℕ → List ℕ → ℕ → NamedFiles → Outcome
resume recipe save report steps files = outcome (plan_of (codes "resume" ∷ recipe ∷ save ∷ report ∷ decimal steps ∷ [])) files

-- ---- the conditions on words and files

-- a valid number STEPS, from 1 to 2^48, both included
abbrev pub IsStepCount : ℕ → Type 0
IsStepCount steps = (1 ≤ steps) × (steps ≤ most_steps)

-- words without a usage answer: they name three files, and SAVE is not an input of a recipe that the files hold
pub record AreWords (recipe save report : List ℕ) (files : NamedFiles) : Type 0 where
  pub three : IsTrue (are_three_files recipe save report)
  pub apart : (bytes : List ℕ) (parsed : RecipeContents) → loaded files recipe most_recipe ≡ Bytes bytes → recipe_of bytes ≡ Ok parsed
      → is_input parsed save ≡ false

-- the files hold a valid recipe, its inputs within their limits, and the save of the position of their audit after so many steps
pub record IsSavedAt (recipe save : List ℕ) (files : NamedFiles) (count : ℕ) : Type 0 where
  pub bytes : List ℕ
  pub recipe_held : loaded files recipe most_recipe ≡ Bytes bytes
  pub parsed : RecipeContents
  pub recipe_reads : recipe_of bytes ≡ Ok parsed
  pub inputs : List (List ℕ)
  pub inputs_held : AreHeld most_content most_inputs files (paths parsed) inputs
  pub position : Position
  pub current : positions.position parsed inputs count ≡ On position
  pub save_held : map.get files save ≡ Some (text_of_save (save_of parsed inputs position))

-- ---- the outcomes of the segments

-- two commands have the same status and text, and REPORT holds the same after both
pub record AreSame (report : List ℕ) (first second : Outcome) : Type 0 where
  pub status : first.status ≡ second.status
  pub text : first.text ≡ second.text
  pub held : map.get first.files report ≡ map.get second.files report

-- a segment pauses after so many steps in all, or has the status, text and REPORT of the undivided audit
abbrev pub Pieces : List ℕ → List ℕ → List ℕ → NamedFiles → ℕ → Outcome → Type 0
Pieces recipe save report files count piece =
    ((piece.status ≡ Paused) × IsSavedAt recipe save piece.files count) ⊎ AreSame report piece (audit recipe report files)

-- a command leaves every name unchanged except these two
abbrev pub LeavesOthers : List ℕ → List ℕ → NamedFiles → Outcome → Type 0
LeavesOthers save report files piece = (name : List ℕ) → name ≢ save → name ≢ report → map.get piece.files name ≡ map.get files name

-- a segment that pauses leaves REPORT unchanged; any other segment leaves SAVE unchanged
pub record LeavesUnwritten (save report : List ℕ) (files : NamedFiles) (piece : Outcome) : Type 0 where
  pub report_stays : piece.status ≡ Paused → map.get piece.files report ≡ map.get files report
  pub save_stays : piece.status ≢ Paused → map.get piece.files save ≡ map.get files save

abbrev pub is_paused : Status → Bool
is_paused Paused = true
is_paused _ = false

-- One command after another as long as the audit pauses, each on the files that the command before it left. `next` is the outcome of a
-- command of so many steps on these files
abbrev pub in_turn : (ℕ → NamedFiles → Outcome) → Outcome → List ℕ → Outcome
in_turn next piece [] = piece
in_turn next piece (steps ∷ counts) = if is_paused piece.status then in_turn next (next steps piece.files) counts else piece

-- an audit in segments: `part`, and then `resume`
abbrev pub in_pieces : List ℕ → List ℕ → List ℕ → ℕ → List ℕ → NamedFiles → Outcome
in_pieces recipe save report steps counts files = in_turn (resume recipe save report) (part recipe save report steps files) counts
