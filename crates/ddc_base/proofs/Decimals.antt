-- Lemmas on the number whose decimal a text is.
use Rattle.std.proofs.Common.{◌≡◌, ℕ, Bool, true, false, cond, ltb, ◌^◌, ◌&&◌, Option, Some, None, List, decimal, refl, ap, ◌∙◌}
use Rattle.std.specs.Str.{bytes_eq}
use Rattle.std.specs.Str.Parse.{digits_value}
use Rattle.std.proofs.lemmas.Fmt.{decimal_is_IsNumeral}
use Rattle.std.proofs.lemmas.Slice.Eq.{bytes_eq-Decides}
use Rattle.std.proofs.lemmas.Bool.Decides.{Decides-ltb}
use Rattle.ddc_base.specs.Decimals.{IsDecimal, as_decimal}

abbrev picked : Bool → Bool → ℕ → Option ℕ
picked same small n = cond (same && small) (Some n) None

picked-none : (same small : Bool) (n : ℕ) → (same ≡ true → small ≡ true → ⊥) → picked same small n ≡ None
picked-none true true n no_both = absurd (no_both refl refl)
picked-none true false n no_both = refl
picked-none false small n no_both = refl

-- the decimal of a number is that number
pub as_decimal-is : (text : List ℕ) (n : ℕ) → IsDecimal text n → as_decimal text ≡ Some n
as_decimal-is text n is =
    let value : digits_value 10 text ≡ n = ap (digits_value 10) is.encoded ∙ (decimal_is_IsNumeral n is.small).1 in
    let same : bytes_eq text (decimal n) ≡ true = (bytes_eq-Decides text (decimal n)).1 is.encoded in
    let below : ltb n (2 ^ 64) ≡ true = (Decides-ltb n (2 ^ 64)).1 is.small in
    rw (value, same, below) refl

-- the decimal of no number is none
pub as_decimal-other : (text : List ℕ) → ((n : ℕ) → IsDecimal text n → ⊥) → as_decimal text ≡ None
as_decimal-other text no_number =
    picked-none (bytes_eq text (decimal (digits_value 10 text))) (ltb (digits_value 10 text) (2 ^ 64)) (digits_value 10 text)
    (λ same small. no_number (digits_value 10 text) (record { small = (Decides-ltb _ _).0 small; encoded = (bytes_eq-Decides _ _).0 same }))
