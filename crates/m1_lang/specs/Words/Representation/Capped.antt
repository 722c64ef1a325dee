-- Numbers as the code keeps them: 2^40 replaces every larger number, since it is in no range.
-- To read the promises, this file is not needed.
use Rattle.std.specs.Prelude.{ℕ, min, Option, Some, None, ℤ}
use Rattle.m1_lang.specs.Words.Numbers.{magnitude, signed_by}
use Rattle.std.specs.Prelude.{◌==◌, List, drop, slice_index, if◌then◌else◌, true, false}

abbrev pub capped : ℕ → ℕ
capped n = min n 1099511627776

abbrev pub capped_value : Option ℕ → Option ℕ
capped_value None = None
capped_value (Some n) = Some (capped n)

-- a number whose magnitude is capped
unfoldable pub capped_number : List ℕ → Option ℤ
capped_number text =
    if slice_index text 0 == 45 then signed_by true (capped_value (magnitude (drop 1 text)))
    else signed_by false (capped_value (magnitude text))
