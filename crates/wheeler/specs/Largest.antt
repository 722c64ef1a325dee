-- The largest relation between sources that the law `carry` allows. docs/reference/argument.md says the same for people.
use Rattle.std.specs.Prelude.{ℕ, List}
use Rattle.mem_files.specs.Outputs.{OutputLocation}
use Rattle.guest_run.specs.Setting.{Setting}
use Rattle.audit_rules.specs.Contents.{SourceText}
use Rattle.wheeler.specs.Meaning.{Compiles, Implements, Prescribes}

-- everything that the source prescribes at the output implements the other source
abbrev pub AllImplement : Prescribes → Compiles
AllImplement prescribes source box output other = (program : List ℕ) → prescribes source box output program → Implements prescribes program other

-- the former relation compiles no more than the latter
abbrev pub CompilesNoMore : Compiles → Compiles → Type 0
CompilesNoMore less more = (source other : SourceText) (box : Setting) (output : OutputLocation) → less source box output other → more source box output other

-- the two relations prescribe the same
abbrev pub PrescribesSame : Prescribes → Prescribes → Type 0
PrescribesSame one two =
    (source : SourceText) (box : Setting) (output : OutputLocation) (content : List ℕ)
    → (one source box output content → two source box output content) × (two source box output content → one source box output content)
