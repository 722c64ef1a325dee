-- The tokens of hex1 and hex2. Public source: the languages of these names of stage0-posix and mescc-tools, whose exact rules here are
-- this project's profile. docs/reference/hex1.md and hex2.md say the same for people.
use Rattle.std.specs.Prelude.{◌≡◌, ℕ, suc, ◌+◌, ◌*◌, ◌==◌, nat_lt, Bool, true, false, not, ◌||◌, ◌&&◌, if◌then◌else◌, List, [], ◌∷◌, length, take, drop, slice_index, Option, Some, None, Result, Ok, Err}
use Rattle.std.specs.List.{position_or_len}
use Rattle.std.specs.Int.{w32, from_le_bytes}
use Rattle.hex.specs.Hex.{hex_digit_value, is_hex_digit}
use Rattle.hex_langs.specs.Hex0.{begins_comment}
use Rattle.hex_langs.specs.declared.items.item.Kind.TheVariants.{I, B, J, U}
use Rattle.hex_langs.specs.declared.items.item.Item.TheVariants as item
use Rattle.hex_langs.specs.declared.items.token.Dialect.{Dialect}
use Rattle.hex_langs.specs.declared.items.token.Dialect.TheVariants.{Hex1, Hex2}
use Rattle.hex_langs.specs.declared.items.token.TokenFault.{TokenFault}
use Rattle.hex_langs.specs.declared.items.token.TokenFault.TheVariants.{OddDigits, BadField}
use Rattle.hex_langs.specs.declared.items.token.Sign.{Sign}
use Rattle.hex_langs.specs.declared.items.token.Sign.TheVariants as sign
use Rattle.hex_langs.specs.declared.items.token.Token.{Token}
use Rattle.hex_langs.specs.declared.items.token.Token.TheVariants.{Byte, Field, Reference, Alone}

-- blanks: 20, 09, 0A and 0D
abbrev pub is_blank : ℕ → Bool
is_blank byte = byte == 32 || byte == 9 || byte == 10 || byte == 13

-- the number of bytes of blanks and comments at the front. `true`: the front is in a comment, which ends with the next LF
abbrev pub gap_from : Bool → List ℕ → ℕ
gap_from in_comment [] = 0
gap_from true (byte ∷ remaining) = suc (gap_from (not (byte == 10)) remaining)
gap_from false (byte ∷ remaining) =
    if begins_comment byte then suc (gap_from true remaining)
    else if is_blank byte then suc (gap_from false remaining)
    else 0

unfoldable pub gap_length : List ℕ → ℕ
gap_length remaining = gap_from false remaining

abbrev pub opens_gap : ℕ → Bool
opens_gap byte = is_blank byte || begins_comment byte

-- a name of hex2 ends before a blank or `>`
abbrev pub ends_name : ℕ → Bool
ends_name byte = is_blank byte || byte == 62

-- a name of hex1 is the next byte, unless that is a blank
abbrev pub one_byte : List ℕ → ℕ
one_byte [] = 0
one_byte (byte ∷ remaining) = if is_blank byte then 0 else 1

-- the number of bytes of the name at the front; 0 if there is no name
unfoldable pub name_length : Dialect → List ℕ → ℕ
name_length Hex1 remaining = one_byte remaining
name_length Hex2 remaining = position_or_len ends_name remaining

-- the byte of two digits
abbrev pub byte_of : Option ℕ → Option ℕ → Option ℕ
byte_of (Some high) (Some low) = Some (16 * high + low)
byte_of _ _ = None

-- the second digit of a byte, after blanks and comments
abbrev pub low_digit : List ℕ → Option ℕ
low_digit [] = None
low_digit (byte ∷ remaining) = hex_digit_value byte

abbrev pub pair_with : ℕ → Option ℕ → Result (Token × ℕ) TokenFault
pair_with gap (Some value) = Ok (Byte value, gap + 1)
pair_with gap None = Err OddDigits

unfoldable pub pair_at : ℕ → List ℕ → Result (Token × ℕ) TokenFault
pair_at digit remaining = pair_with (gap_length remaining) (byte_of (hex_digit_value digit) (low_digit (drop (gap_length remaining) remaining)))

-- the byte of the digits at an index and after it
abbrev pub byte_at : List ℕ → ℕ → Option ℕ
byte_at remaining index = byte_of (hex_digit_value (slice_index remaining index)) (hex_digit_value (slice_index remaining (index + 1)))

abbrev pub field_of : Option ℕ → Option ℕ → Option ℕ → Option ℕ → Result (Token × ℕ) TokenFault
field_of (Some a) (Some b) (Some c) (Some d) = Ok (Field (from_le_bytes w32 (a ∷ b ∷ c ∷ d ∷ [])), 8)
field_of _ _ _ _ = Err BadField

-- a field after `.`: 8 digits that follow at once
unfoldable pub field_at : List ℕ → Result (Token × ℕ) TokenFault
field_at remaining =
    if nat_lt (length remaining) 8 then Err BadField
    else field_of (byte_at remaining 0) (byte_at remaining 2) (byte_at remaining 4) (byte_at remaining 6)

-- a sign and the name that follows at once
abbrev pub named_by : (List ℕ → Token) → ℕ → List ℕ → Result (Token × ℕ) TokenFault
named_by make size remaining = if size == 0 then Err BadField else Ok (make (take size remaining), size)

-- what a sign makes of the name after it
abbrev pub sign_token : Sign → List ℕ → Token
sign_token sign.Label name = Alone (item.Label name)
sign_token sign.Absolute name = Alone (item.Abs name)
sign_token (sign.Reference kind) name = Reference kind name

-- after `%` a name and, in hex2, optionally `>` and a second one
abbrev pub second_name : ℕ → ℕ → List ℕ → Result (Token × ℕ) TokenFault
second_name size more remaining =
    if more == 0 then Err BadField
    else Ok (Alone (item.Gap (take size remaining) (take more (drop (size + 1) remaining))), size + 1 + more)

abbrev pub rel_at : Dialect → List ℕ → Result (Token × ℕ) TokenFault
rel_at Hex1 remaining = named_by (λ name. Alone (item.Rel name)) (name_length Hex1 remaining) remaining
rel_at Hex2 remaining =
    if slice_index remaining (name_length Hex2 remaining) == 62 && not (name_length Hex2 remaining == 0)
    then second_name (name_length Hex2 remaining) (name_length Hex2 (drop (name_length Hex2 remaining + 1) remaining)) remaining
    else named_by (λ name. Alone (item.Rel name)) (name_length Hex2 remaining) remaining

-- `<`, which hex1 lacks
abbrev pub pad_at : Dialect → ℕ → List ℕ → Result (Token × ℕ) TokenFault
pad_at Hex1 byte remaining = Err BadField
pad_at Hex2 byte remaining =
    if byte == 60 then Ok (Alone item.Pad, 0)
    else Err BadField

-- the table of tokens, by the first byte and the bytes after it: the token, and the number of bytes it takes after the first. The signs
-- are `.` `:` `!` `@` `$` `~` `&` `%`, and `<` in hex2 alone
unfoldable pub token_at : Dialect → ℕ → List ℕ → Result (Token × ℕ) TokenFault
token_at dialect byte remaining =
    if is_hex_digit byte then pair_at byte remaining
    else if byte == 46 then field_at remaining
    else if byte == 58 then named_by (sign_token sign.Label) (name_length dialect remaining) remaining
    else if byte == 33 then named_by (sign_token (sign.Reference I)) (name_length dialect remaining) remaining
    else if byte == 64 then named_by (sign_token (sign.Reference B)) (name_length dialect remaining) remaining
    else if byte == 36 then named_by (sign_token (sign.Reference J)) (name_length dialect remaining) remaining
    else if byte == 126 then named_by (sign_token (sign.Reference U)) (name_length dialect remaining) remaining
    else if byte == 38 then named_by (sign_token sign.Absolute) (name_length dialect remaining) remaining
    else if byte == 37 then rel_at dialect remaining
    else pad_at dialect byte remaining

-- the result for two digits, without the token
abbrev pub IsPair : Result (ℕ × ℕ) TokenFault → Result (Token × ℕ) TokenFault → Type 0
IsPair (Ok pair) meant = meant ≡ Ok (Byte pair.0, pair.1)
IsPair (Err why) meant = meant ≡ Err why
