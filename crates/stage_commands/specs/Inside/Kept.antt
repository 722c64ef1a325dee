-- What the code of the commands on one stage relies on.
use Rattle.recipe.specs.Kept.{IsRecipe}
use Rattle.audit_rules.specs.Valid.{AreDone, IsInputs}
use Rattle.stage_commands.specs.declared.ready.Ready.{Ready}

-- a recipe that keeps its rules, its inputs, and finished stages of it
pub record IsReady (ready : Ready) : Type 0 where
  pub kept : IsRecipe ready.recipe
  pub given : IsInputs ready.recipe ready.inputs
  pub done : AreDone ready.recipe ready.done
