-- The fields of a line, each read by itself. To read the promises, this file is not needed.
use Rattle.std.specs.Prelude.{ℕ, ◌+◌, ◌-◌, ◌*◌, ◌==◌, Bool, ◌&&◌, ◌||◌, nat_le, nat_lt, List, [], ◌∷◌, length, Option, Some, None, codes, bytes_eq, if◌then◌else◌}
use Rattle.std.specs.List.{list_all}
use Rattle.std.specs.Result.{result_ok}
use Rattle.hex.specs.Hex.{decode_of}
use Rattle.ddc_base.specs.Decimals.{as_decimal}
use Rattle.ddc_base.specs.HexTexts.{is_lower_digit}
use Rattle.ddc_base.specs.Inside.HexTests.{is_lower_hex}
use Rattle.ddc_base.specs.declared.digests.Digest.{Digest}
use Rattle.report.specs.declared.types.LeftLine.{LeftLine}
use Rattle.report.specs.declared.types.Mark.{Mark}
use Rattle.report.specs.declared.types.Compared.{Compared}
use Rattle.report.specs.declared.types.Compared.TheVariants.{Equal, Differs}
use Rattle.report.specs.Inside.Cuts.{◌>>=◌, cut_at}

-- the bytes of a word's hexadecimal text
abbrev pub hex_of : List ℕ → Option (List ℕ)
hex_of word = if is_lower_hex word then result_ok (decode_of word) else None

-- the 1 to 255 bytes of a word's hexadecimal text
unfoldable pub file_name_of : List ℕ → Option (List ℕ)
file_name_of word = if nat_le 1 (length word) && nat_le (length word) 510 then hex_of word else None

-- the value of a lower-case digit
abbrev pub digit_value : ℕ → ℕ
digit_value digit = if nat_lt digit 97 then digit - 48 else digit - 87

-- the bytes of a text's pairs of digits
abbrev pub pairs_of : List ℕ → List ℕ
pairs_of (high ∷ low ∷ rest) = (16 * digit_value high + digit_value low) ∷ pairs_of rest
pairs_of _ = []

-- the digest of a word's hexadecimal text, 32 bytes
unfoldable pub digest_of : List ℕ → Option Digest
digest_of word =
    if length word == 64 && list_all is_lower_digit word then Some (record { 0 = pairs_of word }) else None

-- a length and a digest
unfoldable pub mark_of : List ℕ → Option Mark
mark_of text = do
  cut ← cut_at 32 text
  length ← as_decimal cut.0
  digest ← digest_of cut.1
  Some (record { length = length; digest = digest })

-- a file's name and its mark
unfoldable pub file_line_of : List ℕ → Option LeftLine
file_line_of text = do
  cut ← cut_at 32 text
  name ← file_name_of cut.0
  mark ← mark_of cut.1
  Some (record { name = name; mark = mark })

-- the line with a stream's number and mark
abbrev pub stream_line_of : {Line : Type 0} → (Mark → Line) → (Mark → Line) → List ℕ → Option Line
stream_line_of first second text = do
  cut ← cut_at 32 text
  if bytes_eq cut.0 (codes "1") then (mark_of cut.1 >>= λ mark. Some (first mark))
      else (if bytes_eq cut.0 (codes "2") then (mark_of cut.1 >>= λ mark. Some (second mark)) else None)

-- two lengths
unfoldable pub lengths_of : List ℕ → Option (ℕ × ℕ)
lengths_of text = do
  cut ← cut_at 32 text
  ours ← as_decimal cut.0
  theirs ← as_decimal cut.1
  Some (ours, theirs)

abbrev pub is_difference : ℕ → ℕ → ℕ → Bool
is_difference offset ours theirs = (nat_le offset ours && nat_le offset theirs) && (nat_lt offset ours || nat_lt offset theirs)

-- an offset and two lengths
unfoldable pub difference_of : List ℕ → Option Compared
difference_of text = do
  cut ← cut_at 32 text
  offset ← as_decimal cut.0
  lengths ← lengths_of cut.1
  if is_difference offset lengths.0 lengths.1 then Some (Differs offset lengths.0 lengths.1) else None

-- the result of a comparison
unfoldable pub compared_of : List ℕ → Option Compared
compared_of text = do
  cut ← cut_at 32 text
  if bytes_eq cut.0 (codes "equal") then (as_decimal cut.1 >>= λ length. Some (Equal length))
      else (if bytes_eq cut.0 (codes "differs") then difference_of cut.1 else None)
