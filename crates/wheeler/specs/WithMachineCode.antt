-- A semantics of other languages beside machine code: a source with a value in hex0, hex1 or hex2 prescribes what runs of the value leave.
-- docs/reference/argument.md says the same for people.
use Rattle.std.specs.Prelude.{ℕ, Option, None, Some, List}
use Rattle.wheeler.specs.Assembly.{ValueLeaves}
use Rattle.wheeler.specs.Meaning.{Prescribes}
use Rattle.wheeler.specs.Values.{binary_of}

-- what the value's runs leave, if the source has a value; else what the other semantics prescribes
abbrev pub machine_code_or_by : Option (List ℕ) → Prescribes → Prescribes
machine_code_or_by (Some program) others = ValueLeaves
machine_code_or_by None others = others

abbrev pub MachineCodeOr : Prescribes → Prescribes
MachineCodeOr others source = machine_code_or_by (binary_of source) others source
