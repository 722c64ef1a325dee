-- Which texts are the hexadecimal text of some bytes.
use Rattle.std.proofs.Common.{◌≡◌, ℕ, zero, suc, ◌+◌, ◌-◌, ◌*◌, ◌/◌, ◌%◌, ◌<◌, ◌==◌, true, List, [], ◌∷◌, length, slice_index, Ok, Err, refl, subst, sym, ap, ◌∙◌, arith}
use Rattle.std.specs.Prelude.{All, nat_lt, if◌then◌else◌}
use Rattle.std.specs.List.{list_all}
use Rattle.std.proofs.lemmas.Bool.{agree_below_at, and_parts, eqb-true}
use Rattle.std.proofs.lemmas.Bool.Decides.{nat_tests}
use Rattle.std.proofs.lemmas.List.Elements.{All-cons, All-head, All-nil, All-tail}
use Rattle.hex.specs.declared.error.FromHexError.{FromHexError}
use Rattle.hex.specs.Hex.{IsBytes, decode_of, encode_lower, encode_with, lower_digits}
use Rattle.hex.proofs.HexLemmas.{length-encode_with, decode_of-encode_lower, decode_of-same}
use Rattle.ddc_base.specs.HexTexts.{IsHexOf, is_lower_digit}
use Rattle.ddc_base.specs.Inside.HexTests.{is_lower_hex}

abbrev small : ℕ → Type 0
small byte = byte < 256

abbrev digit : ℕ → ℕ
digit d = slice_index lower_digits d

abbrev code : ℕ → ℕ
code d = if nat_lt d 10 then 48 + d else 87 + d

-- the digit of each value below 16, and that it is one
digit-code : (d : ℕ) → d < 16 → digit d ≡ code d
digit-code d lt = eqb-true (digit d) (code d) (agree_below_at (λ k. digit k == code k) (λ _. true) 16 d refl lt)

digit-lower : (d : ℕ) → d < 16 → is_lower_digit (digit d) ≡ true
digit-lower d lt = agree_below_at (λ k. is_lower_digit (digit k)) (λ _. true) 16 d refl lt

-- the value of a digit
abbrev value : ℕ → ℕ
value c = if nat_lt c 58 then c - 48 else c - 87

value-small : (c : ℕ) → is_lower_digit c ≡ true → value c < 16
value-small c is = grind (arith, nat_tests)

code-value : (c : ℕ) → is_lower_digit c ≡ true → code (value c) ≡ c
code-value c is = grind (arith, nat_tests)

digit-value : (c : ℕ) → is_lower_digit c ≡ true → digit (value c) ≡ c
digit-value c is = digit-code (value c) (value-small c is) ∙ code-value c is

-- the bytes of a text's pairs of digits
abbrev bytes_of : List ℕ → List ℕ
bytes_of [] = []
bytes_of (high ∷ []) = []
bytes_of (high ∷ low ∷ rest) = (16 * value high + value low) ∷ bytes_of rest

encoded : (text : List ℕ) → length text % 2 ≡ 0 → list_all is_lower_digit text ≡ true → text ≡ encode_lower (bytes_of text)
unfolding encode_with
encoded [] even digits = refl
encoded (high ∷ []) even digits = absurd (omega (arith, even))
encoded (high ∷ low ∷ rest) even digits =
    let first = and_parts _ _ digits in
    let second = and_parts _ _ first.1 in
    let high_small : value high < 16 = value-small high first.0 in
    let low_small : value low < 16 = value-small low second.0 in
    let upper : (16 * value high + value low) / 16 ≡ value high = omega arith in
    let lower : (16 * value high + value low) % 16 ≡ value low = omega arith in
    let even_rest : length rest % 2 ≡ 0 = omega (arith, even) in
    let below : rest ≡ encode_lower (bytes_of rest) = encoded rest even_rest second.1 in
    let high_is : digit (value high) ≡ high = digit-value high first.0 in
    let low_is : digit (value low) ≡ low = digit-value low second.0 in
    rw (upper, lower, high_is, low_is) (ap (λ more. high ∷ low ∷ more) below)

are_bytes : (text : List ℕ) → list_all is_lower_digit text ≡ true → All small (bytes_of text)
are_bytes [] digits = All-nil small
are_bytes (high ∷ []) digits = All-nil small
are_bytes (high ∷ low ∷ rest) digits =
    let first = and_parts _ _ digits in
    let second = and_parts _ _ first.1 in
    let high_small : value high < 16 = value-small high first.0 in
    let low_small : value low < 16 = value-small low second.0 in
    let fits : 16 * value high + value low < 256 = omega arith in
    All-cons small (16 * value high + value low) (bytes_of rest) fits (are_bytes rest second.1)

-- a text that passes the test is the text of some bytes
pub encodes : (text : List ℕ) → is_lower_hex text ≡ true → (bytes : List ℕ) × IsHexOf text bytes
encodes text is =
    let parts = and_parts _ _ is in
    (bytes_of text, record { are_bytes = are_bytes text parts.1; encoded = encoded text (eqb-true _ _ parts.0) parts.1 })

all_digits : (bytes : List ℕ) → All small bytes → list_all is_lower_digit (encode_lower bytes) ≡ true
unfolding encode_with
all_digits [] all = refl
all_digits (byte ∷ rest) all =
    let fits : byte < 256 = All-head small byte rest all in
    let upper : byte / 16 < 16 = omega arith in
    let lower : byte % 16 < 16 = omega arith in
    rw (digit-lower (byte / 16) upper, digit-lower (byte % 16) lower) (all_digits rest (All-tail small byte rest all))

-- the text of some bytes passes the test
pub passes : (text bytes : List ℕ) → IsHexOf text bytes → is_lower_hex text ≡ true
passes text bytes is =
    let size = length-encode_with lower_digits bytes in
    let even : length (encode_lower bytes) % 2 ≡ 0 = omega (arith, size) in
    rw is.encoded (rw even (all_digits bytes is.are_bytes))

from_all : (bytes : List ℕ) → All small bytes → IsBytes bytes
from_all [] all i = omega arith
from_all (byte ∷ rest) all zero = All-head small byte rest all
from_all (byte ∷ rest) all (suc i) = from_all rest (All-tail small byte rest all) i

-- what a text that passes decodes to is what it is the text of
pub decoded : (text bytes : List ℕ) → is_lower_hex text ≡ true → decode_of text ≡ Ok bytes → IsHexOf text bytes
decoded text bytes is gives =
    let encoding = encodes text is in
    let back : decode_of text ≡ Ok encoding.0 = ap decode_of encoding.1.encoded ∙ decode_of-encode_lower encoding.0 (from_all encoding.0 encoding.1.are_bytes) in
    let P : List ℕ → Type 0 = λ some. IsHexOf text some in
    subst P (decode_of-same text encoding.0 bytes back gives) encoding.1

-- a text that passes is decoded with no refusal
pub no_refusal : (text : List ℕ) (why : FromHexError) → is_lower_hex text ≡ true → decode_of text ≡ Err why → ⊥
no_refusal text why is gives =
    let encoding = encodes text is in
    let back : decode_of text ≡ Ok encoding.0 = ap decode_of encoding.1.encoded ∙ decode_of-encode_lower encoding.0 (from_all encoding.0 encoding.1.are_bytes) in
    let both = sym back ∙ gives in cc

pub ruleset hex_texts = (encodes, passes, decoded, no_refusal)
