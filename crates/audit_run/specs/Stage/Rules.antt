-- What the code of one stage requires: the recipe's rules for the stage, and contents within the limit.
use Rattle.std.specs.Prelude.{List, All}
use Rattle.mem_files.specs.Outputs.{IsContent}
use Rattle.recipe.specs.declared.contents.RecipeContents.{RecipeContents}
use Rattle.recipe.specs.declared.parts.Stage.{Stage}
use Rattle.recipe.specs.Kept as kept
use Rattle.audit_rules.specs.declared.answer.Finished.{Finished}

-- a stage of a well-formed recipe
abbrev pub IsStageOf : RecipeContents → Stage → Type 0
IsStageOf recipe stage = (earlier : List Stage) × kept.IsStage recipe earlier stage

-- each artefact is within the limit of contents
abbrev pub AreMade : List Finished → Type 0
AreMade done = All (λ (f : Finished). IsContent f.made) done
