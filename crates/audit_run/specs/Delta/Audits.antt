-- What the delta of an audit says, and the result of resuming from a base and a delta. docs/reference/delta.md says the same for people.
use Rattle.std.specs.Prelude.{◌≡◌, ℕ, List, Option, None, Some, Result, Ok, Err}
use Rattle.recipe.specs.declared.contents.RecipeContents.{RecipeContents}
use Rattle.audit_rules.specs.Positions.{Position, Phase, On, Over}
use Rattle.audit_rules.specs.Valid.{IsPosition}
use Rattle.audit_run.specs.Seen.{AuditState}
use Rattle.audit_run.specs.Saved.{phase_at}
use Rattle.audit_run.specs.Delta.Deltas.{HasDelta, ResumesRelative, delta_text_of}
use Rattle.audit_run.specs.declared.delta.reading.DeltaRefusal.{DeltaRefusal}
use Rattle.audit_run.specs.declared.delta.reading.DeltaRefusal.TheVariants.{Base, Form, OtherBase, State, OutOfMemory}

-- the text is the delta of where an audit stands against a base position
abbrev pub IsDeltaFrom : RecipeContents → List (List ℕ) → Position → Option Phase → List ℕ → Type 0
IsDeltaFrom recipe inputs base None text = ⊥
IsDeltaFrom recipe inputs base (Some (On p)) text = text ≡ delta_text_of recipe inputs base p
IsDeltaFrom recipe inputs base (Some (Over answer)) text = ⊥

-- the text is the delta between where two audits stand
abbrev pub IsDeltaBetween : RecipeContents → List (List ℕ) → Option Phase → Option Phase → List ℕ → Type 0
IsDeltaBetween recipe inputs None current text = ⊥
IsDeltaBetween recipe inputs (Some (On base)) current text = IsDeltaFrom recipe inputs base current text
IsDeltaBetween recipe inputs (Some (Over answer)) current text = ⊥

-- a resumed audit stands at a position, and the text is the delta of that position against the base's
abbrev pub IsResumedRelative : RecipeContents → List (List ℕ) → List ℕ → List ℕ → AuditState → Type 0
IsResumedRelative recipe inputs base text audit =
    (p : Position) × (audit ≡ phase_at recipe inputs p) × IsPosition recipe p × HasDelta recipe inputs base text p

-- resuming from this position's delta gives the audit at the position, or out of memory
abbrev pub IsResumedRelativeAt : RecipeContents → List (List ℕ) → Position → Result AuditState DeltaRefusal → Type 0
IsResumedRelativeAt recipe inputs p (Ok audit) = audit ≡ phase_at recipe inputs p
IsResumedRelativeAt recipe inputs p (Err OutOfMemory) = Unit {0}
IsResumedRelativeAt recipe inputs p (Err (Base refusal)) = ⊥
IsResumedRelativeAt recipe inputs p (Err (Form offset)) = ⊥
IsResumedRelativeAt recipe inputs p (Err OtherBase) = ⊥
IsResumedRelativeAt recipe inputs p (Err State) = ⊥

-- the result of resuming from any base and any text, and when each error occurs
abbrev pub ResumesAuditRelative : RecipeContents → List (List ℕ) → List ℕ → List ℕ → Result AuditState DeltaRefusal → Type 0
ResumesAuditRelative recipe inputs base text (Ok audit) = (p : Position) × (audit ≡ phase_at recipe inputs p) × ResumesRelative recipe inputs base text (Ok p)
ResumesAuditRelative recipe inputs base text (Err refusal) = ResumesRelative recipe inputs base text (Err refusal)
