-- `version`: prints the release of `ddc`, and the logic in which it is proved. docs/reference/command-line.md says the same for people.
use Rattle.std.specs.Prelude.{ℕ, List, [], ◌∷◌, ◌++◌, codes}
use Rattle.ddc_base.specs.Lines.{line}
use Rattle.command_plan.specs.declared.status.Status.TheVariants.{Yes}
use Rattle.command_plan.specs.Plan.{Plan, answers}
use Rattle.command_plan.specs.Words.{usage}

-- the release, and the logic of the Rattle toolchain by its digest, which `rt version` prints after the toolchain's name
abbrev pub version_text : List ℕ
version_text = line (codes "ddc" ∷ codes "1.0" ∷ []) ++ line (codes "rattle" ∷ codes "logic" ∷ codes "dac8208d650f15bf" ∷ [])

-- the plan for the words after `version`
abbrev pub version_plan : List (List ℕ) → Plan
version_plan [] = answers Yes version_text
version_plan _ = usage
