-- A test of hexadecimal text that computes.
use Rattle.std.specs.Prelude.{ℕ, Bool, ◌&&◌, ◌==◌, ◌%◌, List, length}
use Rattle.std.specs.List.{list_all}
use Rattle.ddc_base.specs.HexTexts.{is_lower_digit}

-- an even number of lower-case digits
abbrev pub is_lower_hex : List ℕ → Bool
is_lower_hex text = (length text % 2 == 0) && list_all is_lower_digit text
