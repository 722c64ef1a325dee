-- Arithmetic on numbers of a width in bits, as the instructions compute it (RISC-V Unprivileged ISA, "RV32I", "RV64I", "M").
-- A number of w bits is below 2 ^ w, and `signed w` of rv64_decode is its value in two's complement.
use Rattle.std.specs.Prelude.{ℕ, ◌+◌, ◌-◌, ◌*◌, ◌/◌, ◌%◌, ◌^◌, ◌==◌, Bool, if◌then◌else◌, ℤ, pos, ◌-ℤ◌, ◌*ℤ◌, unsigned_abs, int_div, int_rem}
use Rattle.std.specs.Int.{int_div_euclid, int_rem_euclid}
use Rattle.rv64_decode.specs.Fields.{signed}

-- an integer modulo 2 ^ width
abbrev pub wrapped : ℕ → ℤ → ℕ
wrapped width z = unsigned_abs (int_rem_euclid z (pos (2 ^ width)))

-- an integer divided by 2 ^ count, rounded down
abbrev pub floored : ℤ → ℕ → ℤ
floored z count = int_div_euclid z (pos (2 ^ count))

-- the low 32 bits
abbrev pub low_word : ℕ → ℕ
low_word a = a % 2 ^ 32

-- a number of `width` bits with its top bit copied up to bit 63
abbrev pub sign_extended : ℕ → ℕ → ℕ
sign_extended width n = wrapped 64 (signed width n)

-- 1 if a test holds, otherwise 0
abbrev pub flag : Bool → ℕ
flag test = if test then 1 else 0

abbrev pub sum : ℕ → ℕ → ℕ → ℕ
sum width a b = (a + b) % 2 ^ width

abbrev pub difference : ℕ → ℕ → ℕ → ℕ
difference width a b = wrapped width (pos a -ℤ pos b)

-- shifted left, filled with zeros
abbrev pub shifted_left : ℕ → ℕ → ℕ → ℕ
shifted_left width a count = a * 2 ^ count % 2 ^ width

-- shifted right, filled with zeros
abbrev pub shifted_right : ℕ → ℕ → ℕ
shifted_right a count = a / 2 ^ count

-- shifted right, filled with copies of the sign
abbrev pub shifted_right_signed : ℕ → ℕ → ℕ → ℕ
shifted_right_signed width a count = wrapped width (floored (signed width a) count)

-- the low bits of a product
abbrev pub product : ℕ → ℕ → ℕ → ℕ
product width a b = a * b % 2 ^ width

-- bits 127 to 64 of a product of integers
abbrev pub high_product : ℤ → ℤ → ℕ
high_product x y = wrapped 64 (floored (x *ℤ y) 64)

-- the signed quotient, rounded toward zero; all ones if b is 0. On overflow, wrapping gives the dividend
abbrev pub quotient : ℕ → ℕ → ℕ → ℕ
quotient width a b = if b == 0 then 2 ^ width - 1 else wrapped width (int_div (signed width a) (signed width b))

-- the signed remainder, with the dividend's sign; the dividend if b is 0
abbrev pub remainder : ℕ → ℕ → ℕ → ℕ
remainder width a b = if b == 0 then a else wrapped width (int_rem (signed width a) (signed width b))

-- the unsigned quotient; all ones if b is 0
abbrev pub quotient_unsigned : ℕ → ℕ → ℕ → ℕ
quotient_unsigned width a b = if b == 0 then 2 ^ width - 1 else a / b

-- the unsigned remainder; the dividend if b is 0
abbrev pub remainder_unsigned : ℕ → ℕ → ℕ
remainder_unsigned a b = if b == 0 then a else a % b
