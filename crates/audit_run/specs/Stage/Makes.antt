-- An exit that made an artefact. What follows in the same step allocates.
use Rattle.std.specs.Prelude.{◌≡◌, ◌≤◌, ◌+◌, ℕ, Some, List, length}
use Rattle.ddc_base.specs.Limits.{most_artefacts}
use Rattle.mem_files.specs.Outputs.{out}
use Rattle.mem_files.specs.World.{World}
use Rattle.recipe.specs.declared.parts.Stage.{Stage}
use Rattle.audit_rules.specs.declared.answer.Finished.{Finished}
use Rattle.audit_rules.specs.Stages.{artefact_bytes, output_of}

-- the status is 0, the stage's output exists, and all artefacts together have at most 1,073,741,824 bytes
pub record Makes (stage : Stage) (done : List Finished) (status : ℕ) (world : World) : Type 0 where
  pub good : status ≡ 0
  pub made : List ℕ
  pub there : out world (output_of stage.output) ≡ Some made
  pub small : artefact_bytes done + length made ≤ most_artefacts
