-- `list BINARY`: lists the words of a file by byte offset, each with its value and its instruction. docs/reference/command-line.md says the
-- same for people.
use Rattle.std.specs.Prelude.{ℕ, ◌+◌, List, [], ◌∷◌, ◌++◌, Option, Some, None, codes, if◌then◌else◌}
use Rattle.byteorder.specs.Endian.{little_number}
use Rattle.hex.specs.Hex.{encode_lower}
use Rattle.ddc_base.specs.Lines.{line}
use Rattle.ddc_base.specs.Limits.{most_listed}
use Rattle.rv64_decode.specs.declared.Inst.{Inst}
use Rattle.rv64_decode.specs.Decode.{decoded}
use Rattle.rv64_decode.specs.Text.{text}
use Rattle.command_plan.specs.declared.status.Status.TheVariants.{Yes}
use Rattle.command_plan.specs.Causes.Texts.{hex_word}
use Rattle.command_plan.specs.Words.{is_file_word, usage}
use Rattle.command_plan.specs.Plan.{Plan, answers, needs}

-- the instruction at an offset, or `?` where the word is not an instruction
abbrev pub instruction_text : ℕ → Option Inst → List ℕ
instruction_text offset (Some inst) = text inst offset
instruction_text offset None = codes "?"

-- the line of a word at an offset
unfoldable pub word_line : ℕ → ℕ → List ℕ
word_line offset word = line (hex_word offset ∷ hex_word word ∷ instruction_text offset (decoded word) ∷ [])

-- the line of the last one to three bytes
unfoldable pub rest_line : ℕ → List ℕ → List ℕ
rest_line offset bytes = line (hex_word offset ∷ codes "rest" ∷ encode_lower bytes ∷ [])

-- the lines of bytes from an offset on: four bytes are a word, its low byte first
abbrev pub listing : ℕ → List ℕ → List ℕ
listing offset [] = []
listing offset (a ∷ b ∷ c ∷ d ∷ rest) = word_line offset (little_number 4 (a ∷ b ∷ c ∷ d ∷ [])) ++ listing (offset + 4) rest
listing offset rest = rest_line offset rest

-- loads the binary, of at most 16,777,216 bytes, and lists it
unfoldable pub list_file : List ℕ → Plan
list_file binary = needs binary most_listed (λ bytes. answers Yes (listing 0 bytes))

-- the plan for the words after `list`
abbrev pub list_plan : List (List ℕ) → Plan
list_plan (binary ∷ []) = if is_file_word binary then list_file binary else usage
list_plan _ = usage
