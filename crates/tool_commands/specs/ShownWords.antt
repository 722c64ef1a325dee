-- A word of a file as it is printed: with bytes from `!` to `~` only. docs/reference/command-line.md says the same for people.
use Rattle.std.specs.Prelude.{ℕ, Bool, ◌&&◌, ◌==◌, nat_le, nat_lt, not, if◌then◌else◌, List, [], ◌∷◌, ◌++◌, codes, length, take}
use Rattle.hex.specs.Hex.{encode_lower}

-- ASCII from `!` to `~` except the backslash
abbrev pub is_shown_as_it_is : ℕ → Bool
is_shown_as_it_is byte = nat_le 33 byte && nat_le byte 126 && not (byte == 92)

-- every other byte is printed as a backslash, an `x` and its two hexadecimal digits
abbrev pub shown_byte : ℕ → List ℕ
shown_byte byte = if is_shown_as_it_is byte then byte ∷ [] else 92 ∷ 120 ∷ encode_lower (byte ∷ [])

abbrev pub shown_each : List ℕ → List ℕ
shown_each [] = []
shown_each (byte ∷ bytes) = shown_byte byte ++ shown_each bytes

-- of a word longer than 64 bytes, the first 64 are shown, and two dots after them
unfoldable pub shown_word : List ℕ → List ℕ
shown_word word = if nat_lt 64 (length word) then shown_each (take 64 word) ++ codes ".." else shown_each word
