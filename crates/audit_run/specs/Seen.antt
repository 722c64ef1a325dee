-- An audit as contracts see it, and what its calls return about it. docs/reference/audit.md says the same for people.
use Rattle.std.specs.Prelude.{ℕ, ◌+◌, List, [], ◌∷◌, length, Option, None, Some}
use Rattle.guest_run.specs.Setting.{Setting}
use Rattle.recipe.specs.declared.contents.RecipeContents.{RecipeContents}
use Rattle.recipe.specs.declared.parts.Stage.{Stage}
use Rattle.report.specs.declared.types.Report.{Report}
use Rattle.audit_rules.specs.declared.answer.AuditAnswer.{AuditAnswer}
use Rattle.audit_rules.specs.declared.answer.AuditAnswer.TheVariants.{Completes}
use Rattle.audit_rules.specs.Contents.{Contents, box_of, program_of}
use Rattle.audit_rules.specs.Positions.{Phase, On, Over, beginning, todo}
use Rattle.audit_rules.specs.Stages.{contents}

-- a recipe, its inputs, and where the audit stands; None: no advance was made
pub record AuditState : Type 0 where
  pub recipe : RecipeContents
  pub inputs : List (List ℕ)
  pub current : Option Phase

-- where an audit stands; before the first advance it is at the beginning, the first stage's start
abbrev pub phase_of : AuditState → Option Phase → Phase
phase_of audit None = beginning audit.recipe audit.inputs
phase_of audit (Some phase) = phase

abbrev pub phase : AuditState → Phase
phase audit = phase_of audit audit.current

-- the answer of an audit that is over, and its report if it has one
abbrev pub finished_answer : Option Phase → Option AuditAnswer
finished_answer (Some (Over answer)) = Some answer
finished_answer _ = None

abbrev pub finished_report : Option Phase → Option Report
finished_report (Some (Over (Completes report))) = Some report
finished_report _ = None

-- the present stage's number, from 1, and the steps that its guest took; (0, 0) if the audit is over
abbrev pub place_of : Option Phase → ℕ × ℕ
place_of None = (1, 0)
place_of (Some (On p)) = (length p.done + 1, p.at.steps)
place_of (Some (Over answer)) = (0, 0)

-- the program and the execution context of the first of these stages
abbrev pub first_setting : RecipeContents → Contents → List Stage → Option (List ℕ × Setting)
first_setting recipe so_far [] = None
first_setting recipe so_far (stage ∷ stages) = Some (program_of recipe so_far stage, box_of recipe so_far stage)

-- the program and the execution context of the present stage; None if the audit is over
abbrev pub present_setting : RecipeContents → List (List ℕ) → Option Phase → Option (List ℕ × Setting)
present_setting recipe inputs None = first_setting recipe (contents inputs []) recipe.stages
present_setting recipe inputs (Some (On p)) = first_setting recipe (contents inputs p.done) (todo recipe p.done)
present_setting recipe inputs (Some (Over answer)) = None
