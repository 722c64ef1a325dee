-- The names of saved states: PREFIX.0, PREFIX.1 and so on. docs/reference/command-line.md says the same for people.
use Rattle.std.specs.Prelude.{ℕ, zero, suc, Bool, ◌&&◌, Option, None, Some, List, ◌∷◌, ◌++◌, decimal, length, nat_le, if◌then◌else◌}
use Rattle.ddc_base.specs.Decimals.{as_decimal}
use Rattle.ddc_base.specs.Limits.{most_states}
use Rattle.command_plan.specs.Plan.{Plan}
use Rattle.command_plan.specs.Words.{has_no_zero_byte, is_file_word, is_one_file, usage}

-- the name of the state of this number
abbrev pub piece_name : List ℕ → ℕ → List ℕ
piece_name prefix number = prefix ++ 46 ∷ decimal number

-- PREFIX: 1 to 250 bytes, none of them zero
abbrev pub is_prefix : List ℕ → Bool
is_prefix word = nat_le 1 (length word) && nat_le (length word) 250 && has_no_zero_byte word

-- COUNT: a number of states, from 1 to 1,000, both included
abbrev pub within_states : Option ℕ → Option ℕ
within_states None = None
within_states (Some count) = if nat_le 1 count && nat_le count most_states then Some count else None

unfoldable pub as_states : List ℕ → Option ℕ
as_states word = within_states (as_decimal word)

-- RECIPE is a file name, STAGE has no zero byte, and PREFIX is valid
abbrev pub are_stage_words : List ℕ → List ℕ → List ℕ → Bool
are_stage_words recipe stage prefix = is_file_word recipe && has_no_zero_byte stage && is_prefix prefix

-- the two words must not name the same file
unfoldable pub needs_other : List ℕ → List ℕ → (Unit {0} → Plan) → Plan
needs_other file name next = if is_one_file file name then usage else next tt

-- judges the names of the first so many states, one after another
unfoldable pub each_name : (List ℕ → (Unit {0} → Plan) → Plan) → List ℕ → ℕ → (Unit {0} → Plan) → Plan
each_name judge prefix zero next = next tt
each_name judge prefix (suc count) next = each_name judge prefix count (λ _. judge (piece_name prefix count) next)
