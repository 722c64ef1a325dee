-- Numbers as decimal text. docs/reference/command-line.md is the page for readers.
use Rattle.std.specs.Prelude.{◌≡◌, ℕ, ◌<◌, ◌^◌, ◌&&◌, nat_lt, bytes_eq, Option, Some, None, List, decimal, if◌then◌else◌}
use Rattle.std.specs.Str.Parse.{digits_value}

-- a text is the decimal of a number below 2^64: `0`, or its digits without leading zeros, as they are printed
pub record IsDecimal (text : List ℕ) (value : ℕ) : Type 0 where
  pub small : value < 2 ^ 64
  pub encoded : text ≡ decimal value

-- the number whose decimal a text is; only the value of its digits can be that number
abbrev pub as_decimal : List ℕ → Option ℕ
as_decimal text =
    let value = digits_value 10 text in
    if bytes_eq text (decimal value) && nat_lt value (2 ^ 64) then Some value else None
