-- The number of a refusal, and its byte offset or item number, as a command prints them. docs/reference/hex2.md says the same for people.
use Rattle.std.specs.Prelude.{ℕ}
use Rattle.hex_langs.specs.declared.items.reader.HexRefusal.{HexRefusal}
use Rattle.hex_langs.specs.declared.items.reader.HexRefusal.TheVariants.{OddDigits, BadField, Dangling, DoubleLabel, NoLabel, OutOfReach, TooLong, OutOfMemory}

abbrev pub hex_refusal_number : HexRefusal → ℕ
hex_refusal_number (OddDigits at) = 1
hex_refusal_number (BadField at) = 2
hex_refusal_number (Dangling at) = 3
hex_refusal_number (DoubleLabel index) = 4
hex_refusal_number (NoLabel index) = 5
hex_refusal_number (OutOfReach index) = 6
hex_refusal_number TooLong = 7
hex_refusal_number OutOfMemory = 8

-- the offset of a byte of the source, or the number of an item; 0 without either
abbrev pub hex_refusal_place : HexRefusal → ℕ
hex_refusal_place (OddDigits at) = at
hex_refusal_place (BadField at) = at
hex_refusal_place (Dangling at) = at
hex_refusal_place (DoubleLabel index) = index
hex_refusal_place (NoLabel index) = index
hex_refusal_place (OutOfReach index) = index
hex_refusal_place TooLong = 0
hex_refusal_place OutOfMemory = 0
