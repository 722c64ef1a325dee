-- Why the run of a program fails, as printed, and numbers in hexadecimal digits. docs/reference/command-line.md says the same for people.
use Rattle.std.specs.Prelude.{ℕ, List, [], ◌∷◌, ◌++◌, codes, decimal}
use Rattle.byteorder.specs.Endian.{big_bytes}
use Rattle.hex.specs.Hex.{encode_lower}
use Rattle.elf_load.specs.Refusal.{rank}
use Rattle.elf_load.specs.declared.refusal.ElfRefusal.{ElfRefusal}
use Rattle.rv64_machine.specs.declared.answer.Cause.{Cause}
use Rattle.rv64_machine.specs.declared.answer.Cause.TheVariants.{Illegal, FetchUnmapped, FetchMisaligned, LoadUnmapped, StoreUnmapped, Break}

-- a number of 32 bits in eight hexadecimal digits, and one of 64 bits in sixteen
abbrev pub hex_word : ℕ → List ℕ
hex_word number = encode_lower (big_bytes 4 number)

abbrev pub hex_address : ℕ → List ℕ
hex_address address = encode_lower (big_bytes 8 address)

-- these words, with a blank between neighbours
abbrev pub spaced : List (List ℕ) → List ℕ
spaced [] = []
spaced (word ∷ []) = word
spaced (word ∷ next ∷ words) = word ++ 32 ∷ spaced (next ∷ words)

-- the printed words of a trap
abbrev pub trap_words : Cause → List (List ℕ)
trap_words (Illegal word) = codes "trap" ∷ codes "illegal" ∷ hex_word word ∷ []
trap_words (FetchUnmapped address) = codes "trap" ∷ codes "fetch-unmapped" ∷ hex_address address ∷ []
trap_words (FetchMisaligned address) = codes "trap" ∷ codes "fetch-misaligned" ∷ hex_address address ∷ []
trap_words (LoadUnmapped address) = codes "trap" ∷ codes "load-unmapped" ∷ hex_address address ∷ []
trap_words (StoreUnmapped address) = codes "trap" ∷ codes "store-unmapped" ∷ hex_address address ∷ []
trap_words Break = codes "trap" ∷ codes "break" ∷ []

unfoldable pub trap_text : Cause → List ℕ
trap_text cause = spaced (trap_words cause)

-- a call with an unknown number
unfoldable pub call_text : ℕ → List ℕ
call_text number = spaced (codes "call" ∷ decimal number ∷ [])

-- a file that is not a program, and a program that does not start with these arguments, environment or files
unfoldable pub elf_text : ElfRefusal → List ℕ
elf_text refusal = spaced (codes "start" ∷ codes "elf" ∷ decimal (rank refusal) ∷ [])

abbrev pub args_text : List ℕ
args_text = codes "start args"

abbrev pub box_text : List ℕ
box_text = codes "start box"

-- an exit with a status other than 0
unfoldable pub status_text : ℕ → List ℕ
status_text status = spaced (codes "status" ∷ decimal status ∷ [])

-- the step limit is exhausted
abbrev pub spent_text : List ℕ
spent_text = codes "spent"
