-- `hex0 SOURCE BINARY`: whether the binary is the hex0 value of the source. docs/reference/command-line.md says the same for people.
use Rattle.std.specs.Prelude.{ℕ, ◌&&◌, Option, Some, None, List, [], ◌∷◌, length, if◌then◌else◌}
use Rattle.ddc_base.specs.Difference.{first_difference}
use Rattle.ddc_base.specs.Limits.{most_content}
use Rattle.hex_langs.specs.Hex0.{hex0_of}
use Rattle.command_plan.specs.declared.status.Status.TheVariants.{Yes, Differs}
use Rattle.command_plan.specs.Texts.{equal_line, differs_line}
use Rattle.command_plan.specs.Words.{is_file_word, usage}
use Rattle.command_plan.specs.Plan.{Plan, answers, needs}

-- the answer by the first offset at which two byte lists differ, if there is one
abbrev pub comparison : List ℕ → List ℕ → Option ℕ → Plan
comparison first second None = answers Yes (equal_line (length first))
comparison first second (Some offset) = answers Differs (differs_line offset (length first) (length second))

-- loads the source and then the binary, each of at most 268,435,456 bytes, and compares the source's value with the binary
unfoldable pub hex0_files : List ℕ → List ℕ → Plan
hex0_files source binary =
    needs source most_content (λ text.
    needs binary most_content (λ bytes.
    comparison (hex0_of text) bytes (first_difference (hex0_of text) bytes)))

-- the plan for the words after `hex0`
abbrev pub hex0_plan : List (List ℕ) → Plan
hex0_plan (source ∷ binary ∷ []) = if is_file_word source && is_file_word binary then hex0_files source binary else usage
hex0_plan _ = usage
