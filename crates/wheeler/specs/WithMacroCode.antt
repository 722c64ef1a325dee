-- A semantics of other languages beside machine code and M1: a source with a program in hex0, hex1, hex2 or M1 prescribes what runs of that program
-- leave. docs/reference/argument.md says the same for people.
use Rattle.std.specs.Prelude.{ℕ, Option, None, Some, List}
use Rattle.wheeler.specs.MacroAssembly.{MacroLeaves, program_of_text}
use Rattle.wheeler.specs.Meaning.{Prescribes}

-- by the program of a source, if it has one
abbrev pub macro_code_or_by : Option (List ℕ) → Prescribes → Prescribes
macro_code_or_by (Some program) others = MacroLeaves
macro_code_or_by None others = others

abbrev pub MacroCodeOr : Prescribes → Prescribes
MacroCodeOr others source = macro_code_or_by (program_of_text source) others source
