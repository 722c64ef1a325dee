-- Sources of hexadecimal digits, blanks and comments alone, which hex0, hex1 and hex2 of stage0-posix and mescc-tools have in common.
use Rattle.std.specs.Prelude.{ℕ, Bool, ◌||◌, List}
use Rattle.std.specs.List.{before_first, list_all}
use Rattle.hex.specs.Hex.{is_hex_digit}
use Rattle.hex_langs.specs.Hex0.{begins_comment, lines_of}
use Rattle.hex_langs.specs.Items.Tokens.{is_blank}

-- a line has only digits and blanks before its comment
abbrev pub is_plain_line : List ℕ → Bool
is_plain_line line = list_all (λ byte. is_hex_digit byte || is_blank byte) (before_first begins_comment line)

abbrev pub is_plain : List ℕ → Bool
is_plain source = list_all is_plain_line (lines_of source)
