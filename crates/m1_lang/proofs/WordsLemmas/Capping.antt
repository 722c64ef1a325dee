-- A number that is capped goes on as the number itself.
use Rattle.std.specs.Prelude.{ℤ, pos, negsuc, neg_ℤ, slice_index}
use Rattle.std.specs.Int.{w32, to_le_bytes}
use Rattle.std.proofs.lemmas.Bool.Decides.{nat_tests}
use Rattle.hex_langs.specs.declared.items.token.Token.TheVariants.{Byte, Field}
use Rattle.m1_lang.specs.declared.words.meaning.WordFault.TheVariants.{NumberRange}
use Rattle.m1_lang.specs.declared.words.meaning.WordMeaning.{WordMeaning}
use Rattle.m1_lang.specs.declared.words.meaning.WordFault.{WordFault}
use Rattle.m1_lang.specs.Words.Meanings.{MeansResult}
use Rattle.m1_lang.specs.Words.Representation.Meanings.{MeansForm}
use Rattle.hex_langs.specs.Link.Link.{i_field, modulo_word}
use Rattle.m1_lang.specs.Words.Forms.{Tokens, ranged_tokens, is_within, number_after, number_tokens, store_field, rounded_field}
use Rattle.std.proofs.Common.{Bool, true, false, cond, ◌==◌, map, Result, Ok, Err, zero, ◌≡◌, ℕ, suc, ◌+◌, ◌*◌, ◌-◌, ◌<◌, ◌≤◌, List, [], ◌∷◌, Option, Some, None, refl, sym, ap, subst, ◌∙◌, arith, drop, ◌⊎◌, inl, inr}
use Rattle.std.proofs.lemmas.Bool.{cases_lt}
use Rattle.std.proofs.Math.Nat.{add-mul}
use Rattle.hex.specs.Hex.{hex_digit_value}
use Rattle.m1_lang.specs.Words.Numbers.{after_digit, digit_below, magnitude, more_digits, number_in, signed_by}
use Rattle.m1_lang.specs.Words.Representation.Capped.{capped, capped_number, capped_value}

grown : (k v : ℕ) → v ≤ (1 + k) * v
grown k v = let apart : (1 + k) * v ≡ 1 * v + k * v = add-mul 1 k v in omega (arith, apart)

capped-step : (k v w d : ℕ) → capped v ≡ capped w → capped ((1 + k) * v + d) ≡ capped ((1 + k) * w + d)
capped-step k v w d same = by (cases_lt v 1099511627776)
  where
    by : (v < 1099511627776) ⊎ (1099511627776 ≤ v) → capped ((1 + k) * v + d) ≡ capped ((1 + k) * w + d)
    by (inl below) = let equal : v ≡ w = omega arith in ap (λ (n : ℕ). capped ((1 + k) * n + d)) equal
    by (inr above) = omega (arith, grown k v, grown k w)

capped-more : (k v w : ℕ) (text : List ℕ) → capped v ≡ capped w
    → capped_value (more_digits (1 + k) v text) ≡ capped_value (more_digits (1 + k) w text)
capped-more k v w [] same = ap Some same
capped-more k v w (byte ∷ text) same =
    by (digit_below (1 + k) (hex_digit_value byte)) (λ digit. capped-more k ((1 + k) * v + digit) ((1 + k) * w + digit) text (capped-step k v w digit same))
  where
    by : (o : Option ℕ) → ((digit : ℕ) → capped_value (more_digits (1 + k) ((1 + k) * v + digit) text) ≡ capped_value (more_digits (1 + k) ((1 + k) * w + digit) text))
        → capped_value (after_digit o (λ digit. more_digits (1 + k) ((1 + k) * v + digit) text))
        ≡ capped_value (after_digit o (λ digit. more_digits (1 + k) ((1 + k) * w + digit) text))
    by None later = refl
    by (Some digit) later = later digit

pub digit-more : (base value digit next byte : ℕ) (remaining : List ℕ) → 1 ≤ base → Some digit ≡ digit_below base (hex_digit_value byte)
    → next ≡ capped (base * value + digit)
    → capped_value (more_digits base value (byte ∷ remaining)) ≡ capped_value (more_digits base next remaining)
digit-more base value digit next byte remaining low is next_is =
    let k_is : 1 + (base - 1) ≡ base = omega arith in
    let twice : capped (base * value + digit) ≡ capped next = omega arith in
    ap (λ (o : Option ℕ). capped_value (after_digit o (λ (d : ℕ). more_digits base (base * value + d) remaining))) (sym is)
    ∙ subst (λ (b : ℕ). capped_value (more_digits b (base * value + digit) remaining) ≡ capped_value (more_digits b next remaining)) k_is
    (capped-more (base - 1) (base * value + digit) next remaining twice)

-- ---- a number that is capped is out of every range, as the number itself is

tokens-far : (sign : ℕ) (n : ℤ) → is_within n (neg_ℤ (pos 2048)) (pos 2048) ≡ false → is_within n (neg_ℤ (pos 2147483648)) (pos 4294967296) ≡ false
    → number_tokens sign n ≡ Err NumberRange
tokens-far sign n short word = by (sign == 33) (sign == 64) (sign == 126)
  where
    by : (i s u : Bool) → cond i (ranged_tokens (is_within n (neg_ℤ (pos 2048)) (pos 2048)) (Field (i_field (modulo_word n)) ∷ []))
        (cond s (ranged_tokens (is_within n (neg_ℤ (pos 2048)) (pos 2048)) (Field (store_field (modulo_word n)) ∷ []))
        (cond u (ranged_tokens (is_within n (neg_ℤ (pos 2147483648)) (pos 4294967296)) (Field (rounded_field n) ∷ []))
        (ranged_tokens (is_within n (neg_ℤ (pos 2147483648)) (pos 4294967296)) (map Byte (to_le_bytes w32 (modulo_word n)))))) ≡ Err NumberRange
    by true s u = ap (λ (b : Bool). ranged_tokens b (Field (i_field (modulo_word n)) ∷ [])) short
    by false true u = ap (λ (b : Bool). ranged_tokens b (Field (store_field (modulo_word n)) ∷ [])) short
    by false false true = ap (λ (b : Bool). ranged_tokens b (Field (rounded_field n) ∷ [])) word
    by false false false = ap (λ (b : Bool). ranged_tokens b (map Byte (to_le_bytes w32 (modulo_word n)))) word

far-pos : (sign n : ℕ) → 1099511627776 ≤ n → number_tokens sign (pos n) ≡ Err NumberRange
far-pos sign n far = tokens-far sign (pos n) (grind (arith, nat_tests)) (grind (arith, nat_tests))

far-neg : (sign n : ℕ) → 1099511627776 ≤ n → number_tokens sign (neg_ℤ (pos n)) ≡ Err NumberRange
far-neg sign zero far = absurd (omega arith)
far-neg sign (suc n) far = tokens-far sign (negsuc n) (grind (arith, nat_tests)) (grind (arith, nat_tests))

capped-pos : (sign n : ℕ) → number_tokens sign (pos (capped n)) ≡ number_tokens sign (pos n)
capped-pos sign n = by (cases_lt n 1099511627776)
  where
    by : (n < 1099511627776) ⊎ (1099511627776 ≤ n) → number_tokens sign (pos (capped n)) ≡ number_tokens sign (pos n)
    by (inl near) = let same : capped n ≡ n = omega arith in ap (λ (m : ℕ). number_tokens sign (pos m)) same
    by (inr far) = far-pos sign (capped n) (omega arith) ∙ sym (far-pos sign n far)

capped-neg : (sign n : ℕ) → number_tokens sign (neg_ℤ (pos (capped n))) ≡ number_tokens sign (neg_ℤ (pos n))
capped-neg sign n = by (cases_lt n 1099511627776)
  where
    by : (n < 1099511627776) ⊎ (1099511627776 ≤ n) → number_tokens sign (neg_ℤ (pos (capped n))) ≡ number_tokens sign (neg_ℤ (pos n))
    by (inl near) = let same : capped n ≡ n = omega arith in ap (λ (m : ℕ). number_tokens sign (neg_ℤ (pos m))) same
    by (inr far) = far-neg sign (capped n) (omega arith) ∙ sym (far-neg sign n far)

pub number_after-capped : (sign : ℕ) (text : List ℕ) → number_after sign (capped_number text) ≡ number_after sign (number_in text)
unfolding capped_number number_in
number_after-capped sign text = by (slice_index text 0 == 45) (magnitude (drop 1 text)) (magnitude text)
  where
    by : (minus : Bool) (following whole : Option ℕ)
        → number_after sign (cond minus (signed_by true (capped_value following)) (signed_by false (capped_value whole)))
        ≡ number_after sign (cond minus (signed_by true following) (signed_by false whole))
    by true None whole = refl
    by true (Some n) whole = ap Some (capped-neg sign n)
    by false following None = refl
    by false following (Some n) = ap Some (capped-pos sign n)

pub fits-given : (result : Result WordMeaning WordFault) (tokens : Tokens) → MeansResult result tokens → MeansForm (Some result) (Some tokens)
fits-given (Ok meaning) tokens is = ap Some is
fits-given (Err why) tokens is = ap Some is
