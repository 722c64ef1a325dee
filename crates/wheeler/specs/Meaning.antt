-- What a meaning of sources says, and when a program implements a source. docs/reference/argument.md says the same for people.
use Rattle.std.specs.Prelude.{◌≡◌, ℕ, Some, List}
use Rattle.mem_files.specs.Outputs.{OutputLocation, out}
use Rattle.mem_files.specs.World.{World}
use Rattle.guest_run.specs.Program.{ProgramRun}
use Rattle.guest_run.specs.Setting.{IsBox, Setting}
use Rattle.audit_rules.specs.Contents.{SourceText}

-- the type of: a source, run as a program in an execution context, prescribes a content at an output
abbrev pub Prescribes : Type 1
Prescribes = SourceText → Setting → OutputLocation → List ℕ → Type 0

-- the type of: what a source prescribes at an output is a program of another source
abbrev pub Compiles : Type 1
Compiles = SourceText → Setting → OutputLocation → SourceText → Type 0

-- a program implements a source: in every valid execution context, if it exits with 0, it leaves at each output what the source prescribes
abbrev pub Implements : Prescribes → List ℕ → SourceText → Type 0
Implements prescribes program source =
    (box : Setting) (step : ℕ) (world : World) (output : OutputLocation) (content : List ℕ) → IsBox box → ProgramRun program box step 0 world
    → out world output ≡ Some content → prescribes source box output content
