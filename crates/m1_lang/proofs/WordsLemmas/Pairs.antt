-- Digits two by two, a pair on.
use Rattle.std.proofs.Common.{◌≡◌, ℕ, ◌<◌, true, false, List, [], ◌∷◌, length, map, Option, Some, None, is_some, unwrap_or, refl, sym, ap, ◌∙◌, arith}
use Rattle.hex.specs.Hex.{hex_digit_value}
use Rattle.hex_langs.specs.Items.Tokens.{byte_of}
use Rattle.hex_langs.specs.declared.items.token.Token.TheVariants.{Byte}
use Rattle.m1_lang.specs.Words.Forms.{byte_tokens}
use Rattle.m1_lang.specs.Words.Meanings.{before_bytes, prefix_bytes}
use Rattle.m1_lang.specs.Words.Digits.{cons_byte, digit_bytes}

pub pairs-more : (a b : ℕ) (remaining : List ℕ) (value : ℕ) → Some value ≡ byte_of (hex_digit_value a) (hex_digit_value b)
    → is_some (digit_bytes (a ∷ b ∷ remaining)) ≡ is_some (digit_bytes remaining)
pairs-more a b remaining value is = ap (λ (o : Option ℕ). is_some (cons_byte o (digit_bytes remaining))) (sym is) ∙ kept (digit_bytes remaining)
  where
    kept : (o : Option (List ℕ)) → is_some (cons_byte (Some value) o) ≡ is_some o
    kept None = refl
    kept (Some bytes) = refl

some-is : (a b : List ℕ) → Some a ≡ Some b → a ≡ b
some-is a b is = ap (λ (o : Option (List ℕ)). unwrap_or o []) is

pub bytes-prefix : (text bytes : List ℕ) → digit_bytes text ≡ Some bytes → prefix_bytes text ≡ bytes
bytes-prefix [] bytes is = some-is [] bytes is
bytes-prefix (alone ∷ []) bytes is = absurd (cc)
bytes-prefix (high ∷ low ∷ rest) bytes is = by (byte_of (hex_digit_value high) (hex_digit_value low)) (digit_bytes rest) (bytes-prefix rest) is
  where
    by : (byte : Option ℕ) (remaining : Option (List ℕ)) → ((more : List ℕ) → remaining ≡ Some more → prefix_bytes rest ≡ more) → cons_byte byte remaining ≡ Some bytes
        → before_bytes byte (prefix_bytes rest) ≡ bytes
    by None remaining later same = absurd (cc)
    by (Some byte) None later same = absurd (cc)
    by (Some byte) (Some more) later same = ap (λ (l : List ℕ). byte ∷ l) (later more refl) ∙ some-is (byte ∷ more) bytes same

pub tokens-some : (text : List ℕ) → 0 < length text → is_some (digit_bytes text) ≡ true → byte_tokens (digit_bytes text) ≡ Some (map Byte (prefix_bytes text))
tokens-some text some pairs = by (digit_bytes text) (bytes-prefix text) pairs (long text some)
  where
    long : (remaining : List ℕ) → 0 < length remaining → digit_bytes remaining ≡ Some [] → ⊥
    long [] none is = absurd (omega (arith, none))
    long (alone ∷ []) few is = absurd (cc)
    long (high ∷ low ∷ rest) many is = both (byte_of (hex_digit_value high) (hex_digit_value low)) (digit_bytes rest) is
      where
        both : (byte : Option ℕ) (bytes : Option (List ℕ)) → cons_byte byte bytes ≡ Some [] → ⊥
        both None bytes same = absurd (cc)
        both (Some byte) None same = absurd (cc)
        both (Some byte) (Some bytes) same = absurd (cc)

    by : (bytes : Option (List ℕ)) → ((more : List ℕ) → bytes ≡ Some more → prefix_bytes text ≡ more) → is_some bytes ≡ true → (bytes ≡ Some [] → ⊥)
        → byte_tokens bytes ≡ Some (map Byte (prefix_bytes text))
    by None prefix is some = absurd (cc)
    by (Some []) prefix is some = absurd (some refl)
    by (Some (byte ∷ more)) prefix is some = ap (λ (l : List ℕ). Some (map Byte l)) (sym (prefix (byte ∷ more) refl))

pub tokens-none : (text : List ℕ) → is_some (digit_bytes text) ≡ false → byte_tokens (digit_bytes text) ≡ None
tokens-none text none = by (digit_bytes text) none
  where
    by : (bytes : Option (List ℕ)) → is_some bytes ≡ false → byte_tokens bytes ≡ None
    by None is = refl
    by (Some bytes) is = absurd (cc)
