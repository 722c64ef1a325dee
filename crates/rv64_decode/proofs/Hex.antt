-- Hexadecimal digits, from the highest on.
use Rattle.std.proofs.Common.{◌≡◌, ℕ, zero, suc, ◌+◌, ◌-◌, ◌*◌, ◌/◌, ◌%◌, ◌^◌, ◌<◌, [], ◌∷◌, ◌++◌, length, length-append, add-one, refl, ap, ◌∙◌, arith}
use Rattle.std.proofs.lemmas.Nat.{shr-shr}
use Rattle.rv64_decode.specs.Text.{hex_digit, hex_digits}

pub length-hex_digits : (count n : ℕ) → length (hex_digits count n) ≡ count
unfolding hex_digits
length-hex_digits zero n = refl
length-hex_digits (suc count) n = length-append (hex_digits count (n / 16)) (hex_digit (n % 16) ∷ []) ∙ omega (arith, length-hex_digits count (n / 16))

hex_digits-last : (i m : ℕ) → hex_digits (i + 1) m ≡ hex_digits i (m / 16) ++ hex_digit (m % 16) ∷ []
unfolding hex_digits
hex_digits-last i m = rw (add-one i) refl

-- one digit more
pub hex_digits-more : (count i n : ℕ) → i < count
    → hex_digits (i + 1) (n / 2 ^ (4 * (count - (i + 1)))) ≡ hex_digits i (n / 2 ^ (4 * (count - i))) ++ hex_digit (n / 2 ^ (4 * (count - 1 - i)) % 16) ∷ []
hex_digits-more count i n h =
    let exponent : 4 * (count - (i + 1)) + 4 ≡ 4 * (count - i) = omega arith in
    let same : 4 * (count - 1 - i) ≡ 4 * (count - (i + 1)) = omega arith in
    let high : n / 2 ^ (4 * (count - (i + 1))) / 16 ≡ n / 2 ^ (4 * (count - i)) = shr-shr n (4 * (count - (i + 1))) 4 ∙ ap (λ j. n / 2 ^ j) exponent in
    hex_digits-last i (n / 2 ^ (4 * (count - (i + 1)))) ∙ rw (high, same) refl
