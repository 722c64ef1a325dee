-- Numbers in two's complement, over any width.
use Rattle.std.proofs.Common.{◌≡◌, ℕ, zero, suc, ◌+◌, ◌-◌, ◌*◌, ◌/◌, ◌%◌, ◌^◌, ◌<◌, ◌≤◌, true, ◌&&◌, refl, sym, ap, ◌∙◌, arith, ⊎_elim}
use Rattle.std.specs.Prelude.{ℤ, pos, negsuc, neg_ℤ, ◌-ℤ◌, unsigned_abs, int_le, int_lt}
use Rattle.std.specs.Int.{w64, cast_unsigned}
use Rattle.std.proofs.lemmas.Bool.{and_parts, eqb-true, ltb-true, leb-true, cases_lt, lt-ltb, le-leb, eq-eqb, and_from}
use Rattle.std.proofs.lemmas.Bool.Decides.{nat_tests}
use Rattle.std.proofs.lemmas.Nat.{mod_low, pow-add, pow_pos, div-add-mod'}
use Rattle.std.proofs.lemmas.Int.{ints}
use Rattle.std.proofs.Math.Nat.{mod-eq_of_lt, pow-suc, pow-le-pow_right, mul-mod_right, mul-sub}
use Rattle.rv64_decode.specs.Fields.{signed}
use Rattle.rv64_decode.specs.Encode.{is_signed, is_unsigned, is_multiple}

signed-low : (k n : ℕ) → n < 2 ^ (k - 1) → signed k n ≡ pos n
signed-low k n h = grind (arith, nat_tests)

signed-high : (k n : ℕ) → 2 ^ (k - 1) ≤ n → signed k n ≡ pos n -ℤ pos (2 ^ k)
signed-high k n h = grind (arith, nat_tests)

-- the widths' powers: half of a width's numbers, and how often they go into 2 ^ 32
record Powers (k half rest : ℕ) : Type 0 where
  whole : 2 ^ k ≡ half + half
  all : rest * 2 ^ k ≡ 2 ^ 32
  most : 2 ^ k ≤ 2 ^ 32

powers : (k : ℕ) → 0 < k → k ≤ 32 → Powers k (2 ^ (k - 1)) (2 ^ (32 - k))
powers k p b =
    let up : k ≡ suc (k - 1) = omega arith in
    let full : 32 - k + k ≡ 32 = omega arith in
    record {
      whole = ap (λ j. 2 ^ j) up ∙ pow-suc 2 (k - 1) ∙ omega arith;
      all = sym (pow-add 2 (32 - k) k) ∙ ap (λ j. 2 ^ j) full;
      most = pow-le-pow_right {n = 2} (omega arith) {i = k} {j = 32} b;
    }

-- the low bits of a number of k bits: of m, and of -(m + 1)
coded-pos : (k m half rest : ℕ) → Powers k half rest → m < half → m % 2 ^ 32 % 2 ^ k ≡ m
coded-pos k m half rest p h =
    let small : m % 2 ^ 32 ≡ m = omega (arith, p.whole, p.most) in
    rw small (mod-eq_of_lt {n = m} {m = 2 ^ k} (omega (arith, p.whole)))

coded-neg : (k m half rest : ℕ) → Powers k half rest → suc m ≤ half → (2 ^ 64 - suc m) % 2 ^ 32 % 2 ^ k ≡ 2 ^ k - suc m
coded-neg k m half zero p h = absurd (omega (arith, p.all))
coded-neg k m half (suc rest) p h =
    let split : suc rest * 2 ^ k ≡ rest * 2 ^ k + 2 ^ k = grind arith in
    let small : (2 ^ 64 - suc m) % 2 ^ 32 ≡ rest * 2 ^ k + (2 ^ k - suc m) = omega (arith, p.whole, p.most, p.all, split) in
    rw small (mod_low rest k (2 ^ k - suc m) (omega (arith, pow_pos k)))

below-neg : (half m : ℕ) → int_le (neg_ℤ (pos half)) (negsuc m) ≡ true → suc m ≤ half
below-neg zero m h = cc
below-neg (suc half) m h = let below : m ≤ half = leb-true _ _ h in omega arith

-- the number that the low k bits of a number of k bits stand for is the number
pub signed-code : (k : ℕ) (z : ℤ) → 0 < k → k ≤ 32 → is_signed k z ≡ true → signed k (cast_unsigned w64 z % 2 ^ 32 % 2 ^ k) ≡ z
signed-code k (pos m) p b h =
    let range = and_parts (int_le (neg_ℤ (pos (2 ^ (k - 1)))) (pos m)) (int_lt (pos m) (pos (2 ^ (k - 1)))) h in
    let below : m < 2 ^ (k - 1) = ltb-true _ _ range.1 in
    rw (coded-pos k m (2 ^ (k - 1)) (2 ^ (32 - k)) (powers k p b) below) (signed-low k m below)
signed-code k (negsuc m) p b h =
    let range = and_parts (int_le (neg_ℤ (pos (2 ^ (k - 1)))) (negsuc m)) (int_lt (negsuc m) (pos (2 ^ (k - 1)))) h in
    let below = below-neg (2 ^ (k - 1)) m range.0 in
    let width = powers k p b in
    rw (coded-neg k m (2 ^ (k - 1)) (2 ^ (32 - k)) width below, signed-high k (2 ^ k - suc m) (omega (arith, width.whole))) (omega (arith, ints, width.whole))

-- the same without a sign
pub unsigned-code : (k : ℕ) (z : ℤ) → k ≤ 32 → is_unsigned k z ≡ true → pos (cast_unsigned w64 z % 2 ^ 32 % 2 ^ k) ≡ z
unsigned-code k (pos m) b h =
    let range = and_parts (int_le (pos 0) (pos m)) (int_lt (pos m) (pos (2 ^ k))) h in
    let below : m < 2 ^ k = ltb-true _ _ range.1 in
    let most : 2 ^ k ≤ 2 ^ 32 = pow-le-pow_right {n = 2} (omega arith) {i = k} {j = 32} b in
    let small : m % 2 ^ 32 ≡ m = omega (arith, below, most) in
    ap pos (rw small (mod-eq_of_lt {n = m} {m = 2 ^ k} below))
unsigned-code k (negsuc m) b h = let range = and_parts (int_le (pos 0) (negsuc m)) (int_lt (negsuc m) (pos (2 ^ k))) h in let no = range.0 in cc

-- a multiple of 2 or of 2 ^ 12 keeps that in its low 32 bits
pub multiple-2 : (z : ℤ) → is_multiple 2 z ≡ true → cast_unsigned w64 z % 2 ^ 32 % 2 ≡ 0
multiple-2 (pos m) h = let even : m % 2 ≡ 0 = eqb-true _ _ h in omega arith
multiple-2 (negsuc m) h = let even : suc m % 2 ≡ 0 = eqb-true _ _ h in omega arith

pub multiple-4096 : (z : ℤ) → is_multiple (2 ^ 12) z ≡ true → cast_unsigned w64 z % 2 ^ 32 % 2 ^ 12 ≡ 0
multiple-4096 (pos m) h = let even : m % 2 ^ 12 ≡ 0 = eqb-true _ _ h in omega arith
multiple-4096 (negsuc m) h = let even : suc m % 2 ^ 12 ≡ 0 = eqb-true _ _ h in omega arith

-- different bits stand for different numbers
pub signed-same : (k x y : ℕ) → x < 2 ^ k → y < 2 ^ k → signed k x ≡ signed k y → x ≡ y
signed-same k x y hx hy e =
    ⊎_elim
    (λ lx. ⊎_elim
    (λ ly. let same : pos x ≡ pos y = sym (signed-low k x lx) ∙ e ∙ signed-low k y ly in cc)
    (λ gy. let same : pos x ≡ pos y -ℤ pos (2 ^ k) = sym (signed-low k x lx) ∙ e ∙ signed-high k y gy in absurd (omega (arith, ints)))
    (cases_lt y (2 ^ (k - 1))))
    (λ gx. ⊎_elim
    (λ ly. let same : pos x -ℤ pos (2 ^ k) ≡ pos y = sym (signed-high k x gx) ∙ e ∙ signed-low k y ly in absurd (omega (arith, ints)))
    (λ gy. let same : pos x -ℤ pos (2 ^ k) ≡ pos y -ℤ pos (2 ^ k) = sym (signed-high k x gx) ∙ e ∙ signed-high k y gy in omega (arith, ints))
    (cases_lt y (2 ^ (k - 1))))
    (cases_lt x (2 ^ (k - 1)))

-- what the bits stand for is a number of that width
range-pos : (half n : ℕ) → n < half → (int_le (neg_ℤ (pos half)) (pos n) && int_lt (pos n) (pos half)) ≡ true
range-pos zero n h = absurd (omega arith)
range-pos (suc half) n h = lt-ltb n (suc half) h

range-neg : (half m : ℕ) → suc m ≤ half → (int_le (neg_ℤ (pos half)) (negsuc m) && int_lt (negsuc m) (pos half)) ≡ true
range-neg zero m h = absurd (omega arith)
range-neg (suc half) m h = and_from _ _ (le-leb m half (omega arith)) refl

negative : (k x : ℕ) → x < 2 ^ k → pos x -ℤ pos (2 ^ k) ≡ negsuc (2 ^ k - suc x)
negative k x h = omega (arith, ints)

pub signed-range : (k x : ℕ) → 0 < k → k ≤ 32 → x < 2 ^ k → is_signed k (signed k x) ≡ true
signed-range k x p b h =
    ⊎_elim
    (λ low. rw (signed-low k x low) (range-pos (2 ^ (k - 1)) x low))
    (λ high. let width = powers k p b in rw (signed-high k x high, negative k x h) (range-neg (2 ^ (k - 1)) (2 ^ k - suc x) (omega (arith, width.whole))))
    (cases_lt x (2 ^ (k - 1)))

pub unsigned-range : (k x : ℕ) → x < 2 ^ k → is_unsigned k (pos x) ≡ true
unsigned-range k x h = and_from _ _ (le-leb 0 x (omega arith)) (lt-ltb x (2 ^ k) h)

-- and a multiple of what they are one of
pub signed-multiple : (k j x : ℕ) → j ≤ k → x < 2 ^ k → x % 2 ^ j ≡ 0 → is_multiple (2 ^ j) (signed k x) ≡ true
signed-multiple k j x b h e =
    ⊎_elim
    (λ low. rw (signed-low k x low) (eq-eqb _ _ e))
    (λ high.
    let split : k - j + j ≡ k = omega arith in
    let whole : 2 ^ k ≡ 2 ^ (k - j) * 2 ^ j = ap (λ i. 2 ^ i) (sym split) ∙ pow-add 2 (k - j) j in
    let parts = div-add-mod' x (2 ^ j) in
    let rest : suc (2 ^ k - suc x) ≡ 2 ^ j * 2 ^ (k - j) - 2 ^ j * (x / 2 ^ j) = omega (arith, h, whole, parts, e) in
    let abs : unsigned_abs (negsuc (2 ^ k - suc x)) % 2 ^ j ≡ 0 =
    rw (rest, ← mul-sub (2 ^ j) (2 ^ (k - j)) (x / 2 ^ j)) (mul-mod_right (2 ^ j) (2 ^ (k - j) - x / 2 ^ j)) in
    rw (signed-high k x high, negative k x h) (eq-eqb _ _ abs))
    (cases_lt x (2 ^ (k - 1)))
