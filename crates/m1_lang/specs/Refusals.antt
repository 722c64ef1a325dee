-- The number of a refusal and its byte offset, as a command prints them. docs/reference/m1.md says the same for people.
use Rattle.std.specs.Prelude.{ℕ}
use Rattle.m1_lang.specs.declared.refusal.M1Refusal.{M1Refusal}
use Rattle.m1_lang.specs.declared.refusal.M1Refusal.TheVariants.{BadDefine, DoubleDefine, OpenString, UnknownWord, NumberRange, Dangling, TooLong, OutOfMemory}

abbrev pub m1_refusal_number : M1Refusal → ℕ
m1_refusal_number (BadDefine at) = 1
m1_refusal_number (DoubleDefine at) = 2
m1_refusal_number (OpenString at) = 3
m1_refusal_number (UnknownWord at) = 4
m1_refusal_number (NumberRange at) = 5
m1_refusal_number (Dangling at) = 6
m1_refusal_number TooLong = 7
m1_refusal_number OutOfMemory = 8

-- the offset of a byte of the source; 0 without one
abbrev pub m1_refusal_place : M1Refusal → ℕ
m1_refusal_place (BadDefine at) = at
m1_refusal_place (DoubleDefine at) = at
m1_refusal_place (OpenString at) = at
m1_refusal_place (UnknownWord at) = at
m1_refusal_place (NumberRange at) = at
m1_refusal_place (Dangling at) = at
m1_refusal_place TooLong = 0
m1_refusal_place OutOfMemory = 0
