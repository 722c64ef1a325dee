-- Numbers of any length: an optional `-` and decimal digits, or an optional `-`, `0x` and hexadecimal digits. Public source: the language
-- M1 of stage0-posix and mescc-tools, whose exact rules here are this project's profile. docs/reference/m1.md says the same for people.
use Rattle.std.specs.Prelude.{ℕ, ◌+◌, ◌*◌, ◌==◌, nat_lt, Bool, true, false, ◌&&◌, if◌then◌else◌, List, [], ◌∷◌, drop, slice_index, Option, Some, None, ℤ, pos, neg_ℤ}
use Rattle.hex.specs.Hex.{hex_digit_value}

-- a digit, if it is below the base
abbrev pub digit_below : ℕ → Option ℕ → Option ℕ
digit_below base (Some digit) = if nat_lt digit base then Some digit else None
digit_below base None = None

abbrev pub after_digit : Option ℕ → (ℕ → Option ℕ) → Option ℕ
after_digit (Some digit) rest = rest digit
after_digit None rest = None

-- the value of digits that continue a value
abbrev pub more_digits : ℕ → ℕ → List ℕ → Option ℕ
more_digits base value [] = Some value
more_digits base value (byte ∷ rest) =
    after_digit (digit_below base (hex_digit_value byte)) (λ digit. more_digits base (base * value + digit) rest)

-- the value of one or more digits of a base
abbrev pub digits_value : ℕ → List ℕ → Option ℕ
digits_value base [] = None
digits_value base (byte ∷ rest) = more_digits base 0 (byte ∷ rest)

-- whether a text begins with `0x`
abbrev pub is_hexadecimal : List ℕ → Bool
is_hexadecimal text = slice_index text 0 == 48 && slice_index text 1 == 120

-- `0x` and hexadecimal digits, or decimal digits
abbrev pub magnitude : List ℕ → Option ℕ
magnitude text = if is_hexadecimal text then digits_value 16 (drop 2 text) else digits_value 10 text

abbrev pub signed_by : Bool → Option ℕ → Option ℤ
signed_by minus None = None
signed_by true (Some n) = Some (neg_ℤ (pos n))
signed_by false (Some n) = Some (pos n)

-- a number with or without `-` in front
unfoldable pub number_in : List ℕ → Option ℤ
number_in text =
    if slice_index text 0 == 45 then signed_by true (magnitude (drop 1 text))
    else signed_by false (magnitude text)
