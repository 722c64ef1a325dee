-- The stack of a starting program: its texts, and below them the words with their addresses.
-- Public source: System V ABI, "Process Initialization". docs/reference/running.md says the same for people, with a picture.
use Rattle.std.specs.Prelude.{ℕ, ◌+◌, ◌-◌, ◌*◌, ◌/◌, List, [], ◌∷◌, ◌++◌, length}
use Rattle.std.specs.List.{flat_map}
use Rattle.ddc_base.specs.Limits.{address_end}
use Rattle.paged_mem.specs.Memory.{bytes_of, zeros}

-- the address of the stack's end, which is that of all addresses
abbrev pub stack_end : ℕ
stack_end = address_end

-- a text with the zero byte that ends it
abbrev pub zero_ended : List ℕ → List ℕ
zero_ended text = text ++ 0 ∷ []

-- consecutive texts, each with its zero byte
abbrev pub ended_texts : List (List ℕ) → List ℕ
ended_texts texts = flat_map zero_ended texts

-- the address of each of consecutive texts, the first of which is at `at`
abbrev pub addresses : ℕ → List (List ℕ) → List ℕ
addresses at [] = []
addresses at (text ∷ texts) = at ∷ addresses (at + (length text + 1)) texts

-- the number of words below the texts: the count of arguments, all addresses, and four zeros
abbrev pub word_count : List (List ℕ) → List (List ℕ) → ℕ
word_count args env = 5 + length args + length env

-- the size of the texts and of the words together, in bytes
abbrev pub start_size : List (List ℕ) → List (List ℕ) → ℕ
start_size args env = length (ended_texts args) + length (ended_texts env) + 8 * word_count args env

-- the address of the first text: the texts end at the stack's end, arguments before environment
abbrev pub texts_at : List (List ℕ) → List (List ℕ) → ℕ
texts_at args env = stack_end - length (ended_texts args) - length (ended_texts env)

-- the words: how many arguments, their addresses, 0, the addresses of the environment, 0, and an empty auxiliary vector
abbrev pub stack_words : List (List ℕ) → List (List ℕ) → List ℕ
stack_words args env =
    length args ∷ addresses (texts_at args env) args
    ++ 0 ∷ addresses (texts_at args env + length (ended_texts args)) env
    ++ 0 ∷ 0 ∷ 0 ∷ []

-- the address of the first word: a multiple of 16
abbrev pub stack_pointer : List (List ℕ) → List (List ℕ) → ℕ
stack_pointer args env = (texts_at args env - 8 * word_count args env) / 16 * 16

-- the zero bytes between the words and the texts
abbrev pub gap : List (List ℕ) → List (List ℕ) → ℕ
gap args env = texts_at args env - 8 * word_count args env - stack_pointer args env

-- the bytes from the stack pointer to the stack's end
unfoldable pub stack_bytes : List (List ℕ) → List (List ℕ) → List ℕ
stack_bytes args env = flat_map (bytes_of 8) (stack_words args env) ++ zeros (gap args env) ++ ended_texts args ++ ended_texts env
