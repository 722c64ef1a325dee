-- What the save of an audit says, and the result of resuming. docs/reference/save.md says the same for people.
use Rattle.std.specs.Prelude.{◌≡◌, ℕ, List, Option, None, Some, Result, Ok, Err}
use Rattle.audit_run.specs.Save.Saves.{Resumes, save_of}
use Rattle.audit_run.specs.declared.save.reading.SaveRefusal.{SaveRefusal}
use Rattle.audit_run.specs.declared.save.reading.SaveRefusal.TheVariants.{Form, OtherRecipe, State, OutOfMemory}
use Rattle.recipe.specs.declared.contents.RecipeContents.{RecipeContents}
use Rattle.save_format.specs.Encoded.{IsTextOfSave, text_of_save}
use Rattle.audit_rules.specs.Positions.{Position, Phase, On, Over}
use Rattle.audit_rules.specs.Valid.{IsPosition}
use Rattle.audit_run.specs.Seen.{AuditState}

-- an audit that stands at a position: its present stage has started, and it is not over
abbrev pub IsOn : Option Phase → Type 0
IsOn None = ⊥
IsOn (Some (On p)) = Unit {0}
IsOn (Some (Over answer)) = ⊥

-- the text of the position's save, in the second form
abbrev pub IsSave : RecipeContents → List (List ℕ) → Option Phase → List ℕ → Type 0
IsSave recipe inputs None text = ⊥
IsSave recipe inputs (Some (On p)) text = text ≡ text_of_save (save_of recipe inputs p)
IsSave recipe inputs (Some (Over answer)) text = ⊥

-- the audit of a recipe and its inputs at a position
abbrev pub phase_at : RecipeContents → List (List ℕ) → Position → AuditState
phase_at recipe inputs p = record { recipe = recipe; inputs = inputs; current = Some (On p) }

-- a resumed audit stands at a position, and the text is one of its saves, in either form
abbrev pub IsResumed : RecipeContents → List (List ℕ) → List ℕ → AuditState → Type 0
IsResumed recipe inputs text audit = (p : Position) × (audit ≡ phase_at recipe inputs p) × IsPosition recipe p × IsTextOfSave (save_of recipe inputs p) text

-- resuming from a save of this position gives the audit at the position, or out of memory
abbrev pub IsResumedAt : RecipeContents → List (List ℕ) → Position → Result AuditState SaveRefusal → Type 0
IsResumedAt recipe inputs p (Ok audit) = audit ≡ phase_at recipe inputs p
IsResumedAt recipe inputs p (Err OutOfMemory) = Unit {0}
IsResumedAt recipe inputs p (Err (Form offset)) = ⊥
IsResumedAt recipe inputs p (Err OtherRecipe) = ⊥
IsResumedAt recipe inputs p (Err State) = ⊥

-- the result of resuming from any text, and when each error occurs
abbrev pub ResumesAudit : RecipeContents → List (List ℕ) → List ℕ → Result AuditState SaveRefusal → Type 0
ResumesAudit recipe inputs text (Ok audit) = (p : Position) × (audit ≡ phase_at recipe inputs p) × Resumes recipe inputs text (Ok p)
ResumesAudit recipe inputs text (Err refusal) = Resumes recipe inputs text (Err refusal)
