-- A masked test, part by part of the word.
use Rattle.std.proofs.Common.{◌≡◌, ℕ, ◌+◌, ◌-◌, ◌*◌, ◌/◌, ◌%◌, ◌^◌, ◌<◌, ◌&&◌, ◌∙◌, arith}
use Rattle.std.specs.Prelude.{◌==◌, bit_and}
use Rattle.std.proofs.lemmas.Nat.{and_mask, and_mod, and_shr, shr_split, and_le_r, shr-shr, shl-shr, shr_below}
use Rattle.std.proofs.lemmas.Bool.Decides.{nat_tests}
use Rattle.std.proofs.Math.Nat.{mod-eq_of_lt, mul-mod_left}

-- two numbers are equal where their low parts and their high parts are
pub eqb-parts : (k a b : ℕ) → (a == b) ≡ ((a % 2 ^ k == b % 2 ^ k) && (a / 2 ^ k == b / 2 ^ k))
eqb-parts k a b = grind (arith, nat_tests, shr_split a k, shr_split b k)

-- a masked test is one of the low part and one of the high part
pub test-parts : (k w m v : ℕ) → (bit_and w m == v) ≡ ((bit_and (w % 2 ^ k) (m % 2 ^ k) == v % 2 ^ k) && (bit_and (w / 2 ^ k) (m / 2 ^ k) == v / 2 ^ k))
test-parts k w m v = rw (← and_mod w m k, ← and_shr w m k) (eqb-parts k (bit_and w m) v)

-- all bits of a part are fixed
pub and-fixed : (k x : ℕ) → x < 2 ^ k → bit_and x (2 ^ k - 1) ≡ x
and-fixed k x h = and_mask x k ∙ mod-eq_of_lt h

-- none are
pub test-free : (x v : ℕ) → (bit_and x 0 == v) ≡ (v == 0)
test-free x v = let none : bit_and x 0 ≡ 0 = omega (arith, and_le_r x 0) in rw none (grind (arith, nat_tests))

-- only those from position k on are
pub test-high : (k j x v : ℕ) → x < 2 ^ (j + k) → (bit_and x ((2 ^ j - 1) * 2 ^ k) == v) ≡ ((v % 2 ^ k == 0) && (x / 2 ^ k == v / 2 ^ k))
test-high k j x v h =
    let low : (2 ^ j - 1) * 2 ^ k % 2 ^ k ≡ 0 = mul-mod_left (2 ^ j - 1) (2 ^ k) in
    let high : bit_and (x / 2 ^ k) (2 ^ j - 1) ≡ x / 2 ^ k = and-fixed j (x / 2 ^ k) (shr_below x j k h) in
    rw (test-parts k x ((2 ^ j - 1) * 2 ^ k) v, shl-shr, low, high, test-free)

-- a masked test of a word, at the opcode, bits 11..7, funct3, bits 24..15 and funct7
pub test-fields : (w m v : ℕ) → (bit_and w m == v)
    ≡ ((bit_and (w % 2 ^ 7) (m % 2 ^ 7) == v % 2 ^ 7)
    && ((bit_and (w / 2 ^ 7 % 2 ^ 5) (m / 2 ^ 7 % 2 ^ 5) == v / 2 ^ 7 % 2 ^ 5)
    && ((bit_and (w / 2 ^ 12 % 2 ^ 3) (m / 2 ^ 12 % 2 ^ 3) == v / 2 ^ 12 % 2 ^ 3)
    && ((bit_and (w / 2 ^ 15 % 2 ^ 10) (m / 2 ^ 15 % 2 ^ 10) == v / 2 ^ 15 % 2 ^ 10)
    && (bit_and (w / 2 ^ 25) (m / 2 ^ 25) == v / 2 ^ 25)))))
test-fields w m v =
    rw (← shr-shr w 15 10, ← shr-shr m 15 10, ← shr-shr v 15 10)
    (rw (← test-parts 10 (w / 2 ^ 15) (m / 2 ^ 15) (v / 2 ^ 15), ← shr-shr w 12 3, ← shr-shr m 12 3, ← shr-shr v 12 3)
    (rw (← test-parts 3 (w / 2 ^ 12) (m / 2 ^ 12) (v / 2 ^ 12), ← shr-shr w 7 5, ← shr-shr m 7 5, ← shr-shr v 7 5)
    (rw (← test-parts 5 (w / 2 ^ 7) (m / 2 ^ 7) (v / 2 ^ 7)) (test-parts 7 w m v))))
