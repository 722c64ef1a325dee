-- The meaning of hex0, hex1 and hex2 sources alone: a source means what a run of its value leaves.
-- docs/reference/argument.md says the same for people.
use Rattle.std.specs.Prelude.{◌≡◌, ℕ, Option, Some, List}
use Rattle.mem_files.specs.Outputs.{OutputLocation, out}
use Rattle.mem_files.specs.World.{World}
use Rattle.guest_run.specs.Program.{ProgramRun}
use Rattle.guest_run.specs.Setting.{Setting}
use Rattle.audit_rules.specs.Contents.{SourceText}
use Rattle.wheeler.specs.Meaning.{Prescribes}
use Rattle.wheeler.specs.Values.{binary_of}

-- the source has a program, and some run of it in this execution context exits with 0 and leaves the content at the output
pub record ProgramLeaves (program_of : SourceText → Option (List ℕ)) (source : SourceText) (box : Setting) (output : OutputLocation)
    (content : List ℕ) : Type 0 where
  pub program : List ℕ
  pub is_program : program_of source ≡ Some program
  pub step : ℕ
  pub world : World
  pub runs : ProgramRun program box step 0 world
  pub leaves : out world output ≡ Some content

-- `ProgramLeaves` with the source's value as the program
abbrev pub ValueLeaves : Prescribes
ValueLeaves = ProgramLeaves binary_of

-- the other source has a value, and a run of this source's value leaves it
pub record ValueLeavesValue (source : SourceText) (box : Setting) (output : OutputLocation) (other : SourceText) : Type 0 where
  pub made : List ℕ
  pub is_value : binary_of other ≡ Some made
  pub leaves : ValueLeaves source box output made
