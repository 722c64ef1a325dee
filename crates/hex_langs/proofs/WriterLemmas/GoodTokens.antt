-- The tokens of hex2 are good: their numbers fit, and their names are names.
use Rattle.std.proofs.Common.{◌≡◌, ℕ, zero, suc, ◌+◌, ◌<◌, ◌≤◌, ◌==◌, nat_lt, Bool, true, false, cond, not, ◌&&◌, ◌||◌, List, [], ◌∷◌, length, take, drop, refl, ap, ◌∙◌, arith, Option, Some, None, Result, Ok, Err}
use Rattle.std.proofs.lemmas.Bool.Decides.{nat_tests}
use Rattle.std.specs.List.{list_any, position_or_len}
use Rattle.std.specs.Prelude.{slice_index}
use Rattle.hex.specs.Hex.{hex_digit_value, is_hex_digit}
use Rattle.hex_langs.specs.declared.items.item.Kind.TheVariants.{I, B, J, U}
use Rattle.hex_langs.specs.declared.items.item.Item.TheVariants as item
use Rattle.hex_langs.specs.declared.items.token.Dialect.TheVariants.{Hex2}
use Rattle.hex_langs.specs.declared.items.token.TokenFault.{TokenFault}
use Rattle.hex_langs.specs.declared.items.token.TokenFault.TheVariants.{BadField}
use Rattle.hex_langs.specs.declared.items.token.Token.{Token}
use Rattle.hex_langs.specs.declared.items.token.Token.TheVariants.{Reference, Alone}
use Rattle.hex_langs.specs.Items.Tokens.{byte_at, byte_of, ends_name, field_at, field_of, gap_length, low_digit, name_length, named_by, pair_at, pair_with, rel_at, second_name, token_at}
use Rattle.hex_langs.specs.Writer.Writable.{IsHexName}
use Rattle.hex_langs.proofs.WriterLemmas.Writables.{IsGood}

-- ---- bytes

abbrev pub IsBelow : ℕ → Option ℕ → Type 0
IsBelow most (Some n) = n < most
IsBelow most None = Unit {0}

digit-some : (byte value : ℕ) → hex_digit_value byte ≡ Some value → value < 16
digit-some byte value is = grind (arith, nat_tests)

pub digit-below : (byte : ℕ) → IsBelow 16 (hex_digit_value byte)
digit-below byte = by (hex_digit_value byte) refl
  where
    by : (o : Option ℕ) → hex_digit_value byte ≡ o → IsBelow 16 o
    by None is = tt
    by (Some value) is = digit-some byte value is

pub byte-below : (high low : Option ℕ) → IsBelow 16 high → IsBelow 16 low → IsBelow 256 (byte_of high low)
byte-below None low first second = tt
byte-below (Some high) None first second = tt
byte-below (Some high) (Some low) first second = omega (arith, first, second)

-- ---- what is found

abbrev pub IsGoodFound : Result (Token × ℕ) TokenFault → Type 0
IsGoodFound (Ok found) = IsGood found.0
IsGoodFound (Err why) = Unit {0}

either : (test : Bool) (first second : Result (Token × ℕ) TokenFault) → IsGoodFound first → IsGoodFound second → IsGoodFound (cond test first second)
either true first second here there = here
either false first second here there = there

pair-good : (gap : ℕ) (byte : Option ℕ) → IsBelow 256 byte → IsGoodFound (pair_with gap byte)
pair-good gap None below = tt
pair-good gap (Some byte) below = below

low-below : (remaining : List ℕ) → IsBelow 16 (low_digit remaining)
low-below [] = tt
low-below (byte ∷ remaining) = digit-below byte

pair_at-good : (digit : ℕ) (remaining : List ℕ) → IsGoodFound (pair_at digit remaining)
unfolding pair_at
pair_at-good digit remaining =
    pair-good (gap_length remaining) (byte_of (hex_digit_value digit) (low_digit (drop (gap_length remaining) remaining)))
    (byte-below (hex_digit_value digit) (low_digit (drop (gap_length remaining) remaining)) (digit-below digit) (low-below (drop (gap_length remaining) remaining)))

field-good : (a b c d : Option ℕ) → IsBelow 256 a → IsBelow 256 b → IsBelow 256 c → IsBelow 256 d → IsGoodFound (field_of a b c d)
field-good None b c d below_a below_b below_c below_d = tt
field-good (Some a) None c d below_a below_b below_c below_d = tt
field-good (Some a) (Some b) None d below_a below_b below_c below_d = tt
field-good (Some a) (Some b) (Some c) None below_a below_b below_c below_d = tt
field-good (Some a) (Some b) (Some c) (Some d) below_a below_b below_c below_d = omega (arith, below_a, below_b, below_c, below_d)

at-below : (remaining : List ℕ) (index : ℕ) → IsBelow 256 (byte_at remaining index)
at-below remaining index =
    byte-below (hex_digit_value (slice_index remaining index)) (hex_digit_value (slice_index remaining (index + 1))) (digit-below (slice_index remaining index)) (digit-below (slice_index remaining (index + 1)))

field_at-good : (remaining : List ℕ) → IsGoodFound (field_at remaining)
unfolding field_at
field_at-good remaining =
    either (nat_lt (length remaining) 8) _ (field_of (byte_at remaining 0) (byte_at remaining 2) (byte_at remaining 4) (byte_at remaining 6)) tt
    (field-good (byte_at remaining 0) (byte_at remaining 2) (byte_at remaining 4) (byte_at remaining 6) (at-below remaining 0) (at-below remaining 2) (at-below remaining 4) (at-below remaining 6))

-- ---- names

-- what stands before the first byte of a kind has none of it
no-blank : (p : ℕ → Bool) (remaining : List ℕ) → list_any p (take (position_or_len p remaining) remaining) ≡ false
no-blank p [] = refl
no-blank p (byte ∷ remaining) = by (p byte) refl (no-blank p remaining)
  where
    by : (test : Bool) → p byte ≡ test → list_any p (take (position_or_len p remaining) remaining) ≡ false → list_any p (take (position_or_len p (byte ∷ remaining)) (byte ∷ remaining)) ≡ false
    by true is rest = rw is refl
    by false is rest =
        let one : 1 + position_or_len p remaining ≡ suc (position_or_len p remaining) = omega arith in
        let open_is : take (position_or_len p (byte ∷ remaining)) (byte ∷ remaining) ≡ byte ∷ take (position_or_len p remaining) remaining =
        rw is (ap (λ (n : ℕ). take n (byte ∷ remaining)) one) in
        ap (list_any p) open_is ∙ ap (λ (b : Bool). b || list_any p (take (position_or_len p remaining) remaining)) is ∙ rest

size-within : (p : ℕ → Bool) (remaining : List ℕ) → position_or_len p remaining ≤ length remaining
size-within p [] = omega arith
size-within p (byte ∷ remaining) = by (p byte) (size-within p remaining)
  where
    by : (test : Bool) → position_or_len p remaining ≤ length remaining → cond (not test) (1 + position_or_len p remaining) 0 ≤ length (byte ∷ remaining)
    by true rest = omega arith
    by false rest = omega (arith, rest)

prefix-some : (size : ℕ) (remaining : List ℕ) → (size == 0) ≡ false → size ≤ length remaining → 0 < length (take size remaining)
prefix-some size [] some within = absurd (grind (arith, nat_tests))
prefix-some zero (byte ∷ remaining) some within = absurd (cc)
prefix-some (suc size) (byte ∷ remaining) some within = omega arith

prefix-name : (size : ℕ) (remaining : List ℕ) → size ≡ position_or_len ends_name remaining → (size == 0) ≡ false → IsHexName (take size remaining)
prefix-name size remaining is some = record {
  some = prefix-some size remaining some (omega (arith, is, size-within ends_name remaining));
  whole = ap (λ (n : ℕ). list_any ends_name (take n remaining)) is ∙ no-blank ends_name remaining;
}

name-good : (remaining : List ℕ) → (name_length Hex2 remaining == 0) ≡ false → IsHexName (take (name_length Hex2 remaining) remaining)
unfolding name_length
name-good remaining some = prefix-name (position_or_len ends_name remaining) remaining refl some

named-good : (make : List ℕ → Token) (remaining : List ℕ) → ((name : List ℕ) → IsHexName name → IsGood (make name)) → IsGoodFound (named_by make (name_length Hex2 remaining) remaining)
named-good make remaining good = by (name_length Hex2 remaining == 0) refl
  where
    by : (none : Bool) → (name_length Hex2 remaining == 0) ≡ none → IsGoodFound (cond none (Err BadField) (Ok (make (take (name_length Hex2 remaining) remaining), name_length Hex2 remaining)))
    by true is = tt
    by false is = good (take (name_length Hex2 remaining) remaining) (name-good remaining is)

second-good : (remaining : List ℕ) → (name_length Hex2 remaining == 0) ≡ false
    → IsGoodFound (second_name (name_length Hex2 remaining) (name_length Hex2 (drop (name_length Hex2 remaining + 1) remaining)) remaining)
second-good remaining some = by (name_length Hex2 (drop (name_length Hex2 remaining + 1) remaining) == 0) refl
  where
    rest : List ℕ
    rest = drop (name_length Hex2 remaining + 1) remaining

    by : (none : Bool) → (name_length Hex2 rest == 0) ≡ none
        → IsGoodFound (cond none (Err BadField) (Ok (Alone (item.Gap (take (name_length Hex2 remaining) remaining) (take (name_length Hex2 rest) rest)), name_length Hex2 remaining + 1 + name_length Hex2 rest)))
    by true is = tt
    by false is = (name-good remaining some, name-good rest is)

rel-good : (remaining : List ℕ) → IsGoodFound (rel_at Hex2 remaining)
rel-good remaining = by (slice_index remaining (name_length Hex2 remaining) == 62) (name_length Hex2 remaining == 0) refl
  where
    alone : IsGoodFound (named_by (λ name. Alone (item.Rel name)) (name_length Hex2 remaining) remaining)
    alone = named-good (λ name. Alone (item.Rel name)) remaining (λ name is. is)

    by : (gap none : Bool) → (name_length Hex2 remaining == 0) ≡ none
        → IsGoodFound (cond (gap && not none) (second_name (name_length Hex2 remaining) (name_length Hex2 (drop (name_length Hex2 remaining + 1) remaining)) remaining)
        (named_by (λ name. Alone (item.Rel name)) (name_length Hex2 remaining) remaining))
    by true true is = alone
    by true false is = second-good remaining is
    by false none is = alone

-- ---- the table

pub token-good : (byte : ℕ) (remaining : List ℕ) → IsGoodFound (token_at Hex2 byte remaining)
unfolding token_at
token-good byte remaining =
    either (is_hex_digit byte) (pair_at byte remaining) _ (pair_at-good byte remaining)
    (either (byte == 46) (field_at remaining) _ (field_at-good remaining)
    (either (byte == 58) _ _ (named-good (λ name. Alone (item.Label name)) remaining (λ name is. is))
    (either (byte == 33) _ _ (named-good (Reference I) remaining (λ name is. is))
    (either (byte == 64) _ _ (named-good (Reference B) remaining (λ name is. is))
    (either (byte == 36) _ _ (named-good (Reference J) remaining (λ name is. is))
    (either (byte == 126) _ _ (named-good (Reference U) remaining (λ name is. is))
    (either (byte == 38) _ _ (named-good (λ name. Alone (item.Abs name)) remaining (λ name is. is))
    (either (byte == 37) (rel_at Hex2 remaining) _ (rel-good remaining)
    (either (byte == 60) _ _ tt tt)))))))))
