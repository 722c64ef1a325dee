-- The ends of the plans that continue from a save.
use Rattle.std.specs.Prelude.{ℕ, List}
use Rattle.recipe.specs.declared.contents.RecipeContents.{RecipeContents}
use Rattle.audit_rules.specs.Positions.{forward}
use Rattle.command_plan.specs.Plan.{Plan}
use Rattle.audit_commands.specs.Pause.{came_to, needs_position, whole_save}

-- the position that a save says, and then the audit from there
abbrev pub resumes_whole : RecipeContents → List (List ℕ) → List ℕ → List ℕ → List ℕ → ℕ → Plan
resumes_whole recipe inputs text save report steps =
    needs_position recipe inputs text (λ p. came_to recipe (whole_save recipe inputs) save report (forward recipe inputs p steps))
