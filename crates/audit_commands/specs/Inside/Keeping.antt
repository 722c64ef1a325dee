-- What is saved of an audit that is not over, as a function of its position.
use Rattle.std.specs.Prelude.{◌≡◌, ℕ, List}
use Rattle.recipe.specs.declared.contents.RecipeContents.{RecipeContents}
use Rattle.audit_rules.specs.Positions.{Position}
use Rattle.audit_run.specs.Delta.Deltas.{IsBaseAt, delta_text_of}
use Rattle.audit_commands.specs.declared.going.Kept.{Kept}
use Rattle.audit_commands.specs.declared.going.Kept.TheVariants.{Whole, Relative}
use Rattle.audit_commands.specs.Pause.{whole_save}

-- the whole save, or the delta against the position of this save
abbrev pub Keeps : RecipeContents → List (List ℕ) → Kept → (Position → List ℕ) → Type 0
Keeps recipe inputs Whole text = (p : Position) → text p ≡ whole_save recipe inputs p
Keeps recipe inputs (Relative save) text =
    (base : Position) × IsBaseAt recipe inputs base save.now × ((p : Position) → text p ≡ delta_text_of recipe inputs base p)
