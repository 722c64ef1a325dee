-- Numbers of some bytes, lowest first: as they stand in a list, and as `to_le_bytes` gives them.
use Rattle.std.proofs.Common.{◌≡◌, ℕ, zero, suc, ◌+◌, ◌*◌, ◌/◌, ◌%◌, ◌^◌, ◌<◌, ◌≤◌, List, ◌∷◌, length, get_or, take, drop, refl, sym, ap, ◌∙◌, arith, ◌-◌}
use Rattle.std.proofs.Math.Seq.{drop-cons}
use Rattle.std.specs.Int.{bytes_low_first, byte_at, to_le_bytes, w64}
use Rattle.std.proofs.Math.Nat.{pow-suc, div-div-eq-div-mul, suc-add}
use Rattle.paged_mem.specs.Memory.{number_of, bytes_of}
use Rattle.paged_mem.specs.Ram.{count_of}
use Rattle.paged_mem.specs.declared.ram.Width.{Width}
use Rattle.paged_mem.specs.declared.ram.Width.TheVariants.{W1, W2, W4, W8}
use Rattle.paged_mem.specs.Inside.Flat.{number_at}

pub number_of-take : (bytes : List ℕ) (start count : ℕ) → start + count ≤ length bytes → number_of (take count (drop start bytes)) ≡ number_at bytes start count
unfolding number_of
number_of-take bytes start zero within = refl
number_of-take bytes start (suc count) within =
    ap (λ xs. number_of (take (suc count) xs)) (drop-cons bytes start 0 (omega arith))
    ∙ ap (λ n. get_or bytes start 0 + 256 * n) (number_of-take bytes (suc start) count (omega arith) ∙ ap (λ n. number_at bytes n count) (omega arith))

byte_at_is : (i value : ℕ) → byte_at i value ≡ value / 256 ^ i % 256
byte_at_is zero value = ap (λ n. n % 256) (let one : value ≡ value / 256 ^ 0 = omega arith in one)
byte_at_is (suc i) value = refl

low_first-bytes_of : (i count value : ℕ) → bytes_low_first i count value ≡ bytes_of count (value / 256 ^ i)
unfolding bytes_of
low_first-bytes_of i zero value = refl
low_first-bytes_of i (suc count) value =
    ap (λ b. b ∷ bytes_low_first (suc i) count value) (byte_at_is i value)
    ∙ ap (λ xs. value / 256 ^ i % 256 ∷ xs) (low_first-bytes_of (suc i) count value ∙ ap (bytes_of count) (ap (λ n. value / n) (pow-suc 256 i) ∙ sym (div-div-eq-div-mul value (256 ^ i) 256)))

take-low_first : (i count more value : ℕ) → take count (bytes_low_first i (count + more) value) ≡ bytes_low_first i count value
take-low_first i zero more value = refl
take-low_first i (suc count) more value =
    ap (λ n. take (suc count) (bytes_low_first i n value)) (suc-add count more) ∙ ap (λ xs. byte_at i value ∷ xs) (take-low_first (suc i) count more value)

-- the first of a number's eight bytes are its low bytes
pub take-to_le_bytes : (count value : ℕ) → count ≤ 8 → take count (to_le_bytes w64 value) ≡ bytes_of count value
take-to_le_bytes count value le =
    let all : count + (8 - count) ≡ 8 = omega arith in
    let whole : value / 256 ^ 0 ≡ value = omega arith in
    ap (λ n. take count (bytes_low_first 0 n value)) (sym all) ∙ take-low_first 0 count (8 - count) value ∙ low_first-bytes_of 0 count value ∙ ap (bytes_of count) whole

-- all eight of them
pub all-to_le_bytes : (value : ℕ) → to_le_bytes w64 value ≡ bytes_of 8 value
all-to_le_bytes value = let whole : value / 256 ^ 0 ≡ value = omega arith in low_first-bytes_of 0 8 value ∙ ap (bytes_of 8) whole

pub length-bytes_of : (count value : ℕ) → length (bytes_of count value) ≡ count
unfolding bytes_of
length-bytes_of zero value = refl
length-bytes_of (suc count) value = ap suc (length-bytes_of count (value / 256))

pub bytes_of-small : (count value i : ℕ) → get_or (bytes_of count value) i 0 < 256
unfolding bytes_of
bytes_of-small zero value i = omega arith
bytes_of-small (suc count) value zero = omega arith
bytes_of-small (suc count) value (suc i) = bytes_of-small count (value / 256) i

pub count_of_at_most : (width : Width) → count_of width ≤ 8
count_of_at_most W1 = omega arith
count_of_at_most W2 = omega arith
count_of_at_most W4 = omega arith
count_of_at_most W8 = omega arith
