-- Hexadecimal digits two by two, as in the language M1 of stage0-posix and mescc-tools. docs/reference/m1.md says the same for people.
use Rattle.std.specs.Prelude.{ℕ, List, [], ◌∷◌, Option, Some, None}
use Rattle.hex.specs.Hex.{hex_digit_value}
use Rattle.hex_langs.specs.Items.Tokens.{byte_of}

-- a byte in front of bytes, if both exist
abbrev pub cons_byte : Option ℕ → Option (List ℕ) → Option (List ℕ)
cons_byte (Some byte) (Some bytes) = Some (byte ∷ bytes)
cons_byte _ _ = None

-- the bytes of digits, the high one first. `None` if a byte is not a digit or one digit is left over
abbrev pub digit_bytes : List ℕ → Option (List ℕ)
digit_bytes [] = Some []
digit_bytes (alone ∷ []) = None
digit_bytes (high ∷ low ∷ rest) = cons_byte (byte_of (hex_digit_value high) (hex_digit_value low)) (digit_bytes rest)
