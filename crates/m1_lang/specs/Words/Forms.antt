-- The forms of an M1 word, and the tokens that it gives. Public source: the language M1 of stage0-posix and mescc-tools, whose exact rules
-- here are this project's profile; the fields are those of the RISC-V Unprivileged ISA, "Immediate Encoding Variants".
-- docs/reference/m1.md says the same for people.
use Rattle.std.specs.Prelude.{ℕ, ◌+◌, ◌-◌, ◌*◌, ◌/◌, ◌%◌, ◌==◌, Bool, false, ◌&&◌, ◌||◌, if◌then◌else◌, List, [], ◌∷◌, ◌++◌, length, take, map, replicate, Option, Some, None, Result, Ok, Err, ℤ, pos, neg_ℤ, ◌+ℤ◌, int_le, int_lt}
use Rattle.std.specs.Int.{w32, to_le_bytes}
use Rattle.hex_langs.specs.declared.items.token.Dialect.TheVariants.{Hex2}
use Rattle.hex_langs.specs.declared.items.token.TokenFault.{TokenFault}
use Rattle.hex_langs.specs.declared.items.token.Token.{Token}
use Rattle.hex_langs.specs.declared.items.token.Token.TheVariants.{Byte, Field}
use Rattle.hex_langs.specs.Items.Tokens.{token_at}
use Rattle.hex_langs.specs.Link.Link.{i_field, modulo_word, upper_field}
use Rattle.m1_lang.specs.declared.words.meaning.WordFault.{WordFault}
use Rattle.m1_lang.specs.declared.words.meaning.WordFault.TheVariants.{UnknownWord, NumberRange}
use Rattle.m1_lang.specs.Words.Digits.{digit_bytes}
use Rattle.m1_lang.specs.Words.Numbers.{number_in}

-- the result of a word: tokens of hex2, or a refusal
abbrev pub Tokens : Type 0
Tokens = Result (List Token) WordFault

-- the result of a word in one form; `None` if it does not have this form
abbrev pub FormTokens : Type 0
FormTokens = Option Tokens

-- ---- values: digits alone, or `.` and 8 digits

-- a positive even number of digits
abbrev pub byte_tokens : Option (List ℕ) → Option (List Token)
byte_tokens (Some (byte ∷ bytes)) = Some (map Byte (byte ∷ bytes))
byte_tokens _ = None

-- the token, if it takes all of these bytes
abbrev pub token_over : List ℕ → Result (Token × ℕ) TokenFault → Option Token
token_over rest (Ok found) = if found.1 == length rest then Some found.0 else None
token_over rest (Err why) = None

-- the one token of hex2 that takes the whole word
unfoldable pub whole_token : List ℕ → Option Token
whole_token [] = None
whole_token (first ∷ rest) = token_over rest (token_at Hex2 first rest)

abbrev pub one_token : Option Token → Option (List Token)
one_token (Some token) = Some (token ∷ [])
one_token None = None

-- whether a text begins with a byte
abbrev pub begins_with : ℕ → List ℕ → Bool
begins_with byte [] = false
begins_with byte (first ∷ rest) = first == byte

-- a value: after `.` a field as in hex2, otherwise digits
unfoldable pub value_tokens : List ℕ → Option (List Token)
value_tokens text = if begins_with 46 text then one_token (whole_token text) else byte_tokens (digit_bytes text)

-- ---- quoted words

-- the text between a word's quotes
abbrev pub between : List ℕ → List ℕ
between rest = take (length rest - 1) rest

-- a text and then one to four zero bytes, up to a multiple of 4 in all
abbrev pub padded : List ℕ → List ℕ
padded text = text ++ replicate (4 - length text % 4) 0

-- `"text"`, and `'digits'`
abbrev pub quoted_tokens : List ℕ → Option (List Token)
quoted_tokens [] = None
quoted_tokens (quote ∷ rest) =
    if quote == 34 then Some (map Byte (padded (between rest)))
    else if quote == 39 then byte_tokens (digit_bytes (between rest))
    else None

-- ---- numbers after a sign

-- bits 11..5 of a number in bits 31..25, and bits 4..0 in 11..7
abbrev pub store_field : ℕ → ℕ
store_field n = n / 32 % 128 * 33554432 + n % 32 * 128

-- bits 31..12 of a number, rounded, since a signed lower part is added to it
abbrev pub rounded_field : ℤ → ℕ
rounded_field n = upper_field (modulo_word (n +ℤ pos 2048))

-- low <= n < high
abbrev pub is_within : ℤ → ℤ → ℤ → Bool
is_within n low high = int_le low n && int_lt n high

-- the tokens of a number in range
abbrev pub ranged_tokens : Bool → List Token → Tokens
ranged_tokens fits tokens = if fits then Ok tokens else Err NumberRange

-- -2048 <= n <= 2047
abbrev pub as_short : ℤ → List Token → Tokens
as_short n = ranged_tokens (is_within n (neg_ℤ (pos 2048)) (pos 2048))

-- -2^31 <= n < 2^32
abbrev pub as_word : ℤ → List Token → Tokens
as_word n = ranged_tokens (is_within n (neg_ℤ (pos 2147483648)) (pos 4294967296))

-- `!` the I field, `@` the S field, `~` the upper field, `%` four bytes, the low one first
abbrev pub number_tokens : ℕ → ℤ → Tokens
number_tokens sign n =
    if sign == 33 then as_short n (Field (i_field (modulo_word n)) ∷ [])
    else if sign == 64 then as_short n (Field (store_field (modulo_word n)) ∷ [])
    else if sign == 126 then as_word n (Field (rounded_field n) ∷ [])
    else as_word n (map Byte (to_le_bytes w32 (modulo_word n)))

abbrev pub takes_number : ℕ → Bool
takes_number sign = sign == 33 || sign == 64 || sign == 126 || sign == 37

abbrev pub number_after : ℕ → Option ℤ → FormTokens
number_after sign (Some n) = Some (number_tokens sign n)
number_after sign None = None

unfoldable pub numbered_tokens : List ℕ → FormTokens
numbered_tokens [] = None
numbered_tokens (sign ∷ rest) = if takes_number sign then number_after sign (number_in rest) else None

-- ---- the table

-- a form's tokens, otherwise the later result
abbrev pub form_or : Option (List Token) → Tokens → Tokens
form_or (Some tokens) later = Ok tokens
form_or None later = later

-- a numbered form's tokens or refusal, otherwise the later result
abbrev pub numbered_or : FormTokens → Tokens → Tokens
numbered_or (Some tokens) later = tokens
numbered_or None later = later

-- the tokens of a word that no definition names. The first form that fits counts: quoted `"text"` or `'digits'`, digits alone, `.` with 8
-- digits, or a number after `!`, `@`, `~` or `%`. Otherwise the word is one token of hex2: `!x` `@x` `$x` `~x` `%x` `%x>y` `&x` `:x` `<`
unfoldable pub form_tokens : List ℕ → Tokens
form_tokens text =
    form_or (quoted_tokens text)
    (form_or (value_tokens text)
    (numbered_or (numbered_tokens text)
    (form_or (one_token (whole_token text)) (Err UnknownWord))))

-- the tokens of the value that a definition gives a word
abbrev pub defined_tokens : Option (List ℕ) → Option (List Token)
defined_tokens (Some value) = value_tokens value
defined_tokens None = None

-- the tokens of a word, with these values of definitions
abbrev pub tokens_of : (List ℕ → Option (List ℕ)) → List ℕ → Tokens
tokens_of values text = form_or (defined_tokens (values text)) (form_tokens text)
