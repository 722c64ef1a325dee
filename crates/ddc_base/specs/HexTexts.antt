-- Bytes as hexadecimal text, two lower-case digits for each.
use Rattle.std.specs.Prelude.{◌≡◌, ℕ, ◌<◌, Bool, ◌&&◌, ◌||◌, nat_le, All, List}
use Rattle.hex.specs.Hex.{encode_lower}

-- a text is the hexadecimal text of these bytes
pub record IsHexOf (text bytes : List ℕ) : Type 0 where
  pub are_bytes : All (λ byte. byte < 256) bytes
  pub encoded : text ≡ encode_lower bytes

-- is this byte a lower-case digit, `0` to `9` or `a` to `f`?
abbrev pub is_lower_digit : ℕ → Bool
is_lower_digit byte = (nat_le 48 byte && nat_le byte 57) || (nat_le 97 byte && nat_le byte 102)
