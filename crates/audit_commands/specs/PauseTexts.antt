-- What these commands print besides the lines of `audit`. docs/reference/command-line.md says the same for people.
use Rattle.std.specs.Prelude.{ℕ, List, [], ◌∷◌, codes, decimal}
use Rattle.ddc_base.specs.Lines.{line}
use Rattle.audit_run.specs.Save.Saves.{save_refusal_number}
use Rattle.audit_run.specs.Delta.Deltas.{delta_refusal_number}
use Rattle.audit_run.specs.declared.delta.reading.DeltaRefusal.{DeltaRefusal}
use Rattle.audit_run.specs.declared.save.reading.SaveRefusal.{SaveRefusal}

-- the line of a paused audit: its stage, and the steps taken in it
unfoldable pub paused_line : List ℕ → ℕ → List ℕ
paused_line stage steps = line (codes "paused" ∷ stage ∷ decimal steps ∷ [])

-- the line for a file that is not a save of the recipe and its inputs
unfoldable pub save_refused_line : SaveRefusal → List ℕ
save_refused_line refusal = line (codes "save" ∷ codes "refused" ∷ decimal (save_refusal_number refusal) ∷ [])

-- the line for files that are not a save of the recipe and its inputs and a delta against it
unfoldable pub delta_refused_line : DeltaRefusal → List ℕ
delta_refused_line refusal = line (codes "save" ∷ codes "refused" ∷ decimal (delta_refusal_number refusal) ∷ [])
