-- The result of judging a base alone.
use Rattle.std.specs.Prelude.{◌≢◌, ℕ, List, Result, Ok, Err}
use Rattle.recipe.specs.declared.contents.RecipeContents.{RecipeContents}
use Rattle.audit_rules.specs.Positions.{Position}
use Rattle.audit_rules.specs.Valid.{IsPosition}
use Rattle.audit_run.specs.Save.Saves.{Resumes}
use Rattle.audit_run.specs.declared.delta.reading.DeltaRefusal.{DeltaRefusal}
use Rattle.audit_run.specs.declared.delta.reading.DeltaRefusal.TheVariants.{Base, Form, OtherBase, State, OutOfMemory}
use Rattle.audit_run.specs.declared.save.reading.SaveRefusal.TheVariants as save

-- the base is the save of a position, or is refused as a save is
abbrev pub JudgesBase : RecipeContents → List (List ℕ) → List ℕ → Result (Unit {0}) DeltaRefusal → Type 0
JudgesBase recipe inputs base (Ok done) = (b : Position) × Resumes recipe inputs base (Ok b) × IsPosition recipe b
JudgesBase recipe inputs base (Err (Base refusal)) = Resumes recipe inputs base (Err refusal) × (refusal ≢ save.OutOfMemory)
JudgesBase recipe inputs base (Err OutOfMemory) = Resumes recipe inputs base (Err save.OutOfMemory)
JudgesBase recipe inputs base (Err (Form offset)) = ⊥
JudgesBase recipe inputs base (Err OtherBase) = ⊥
JudgesBase recipe inputs base (Err State) = ⊥
