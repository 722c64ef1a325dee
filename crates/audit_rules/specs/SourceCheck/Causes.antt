-- How a language's refusal becomes the cause of a check. The refusal is never out of memory (the law `no_source_wants_memory`), so the
-- cause at OutOfMemory does not matter.
use Rattle.std.specs.Prelude.{ℕ}
use Rattle.hex_langs.specs.declared.items.reader.HexRefusal.{HexRefusal}
use Rattle.hex_langs.specs.declared.items.reader.HexRefusal.TheVariants as hex
use Rattle.m1_lang.specs.declared.refusal.M1Refusal.{M1Refusal}
use Rattle.m1_lang.specs.declared.refusal.M1Refusal.TheVariants as m1
use Rattle.audit_rules.specs.declared.source_check.cause.HexCause.{HexCause}
use Rattle.audit_rules.specs.declared.source_check.cause.HexCause.TheVariants as hex_cause
use Rattle.audit_rules.specs.declared.source_check.cause.M1Cause.{M1Cause}
use Rattle.audit_rules.specs.declared.source_check.cause.M1Cause.TheVariants as m1_cause

abbrev pub cause_of_hex : HexRefusal → HexCause
cause_of_hex (hex.OddDigits at) = hex_cause.OddDigits at
cause_of_hex (hex.BadField at) = hex_cause.BadField at
cause_of_hex (hex.Dangling at) = hex_cause.Dangling at
cause_of_hex (hex.DoubleLabel index) = hex_cause.DoubleLabel index
cause_of_hex (hex.NoLabel index) = hex_cause.NoLabel index
cause_of_hex (hex.OutOfReach index) = hex_cause.OutOfReach index
cause_of_hex hex.TooLong = hex_cause.TooLong
cause_of_hex hex.OutOfMemory = hex_cause.TooLong

abbrev pub cause_of_m1 : M1Refusal → M1Cause
cause_of_m1 (m1.BadDefine at) = m1_cause.BadDefine at
cause_of_m1 (m1.DoubleDefine at) = m1_cause.DoubleDefine at
cause_of_m1 (m1.OpenString at) = m1_cause.OpenString at
cause_of_m1 (m1.UnknownWord at) = m1_cause.UnknownWord at
cause_of_m1 (m1.NumberRange at) = m1_cause.NumberRange at
cause_of_m1 (m1.Dangling at) = m1_cause.Dangling at
cause_of_m1 m1.TooLong = m1_cause.TooLong
cause_of_m1 m1.OutOfMemory = m1_cause.TooLong

-- the number and the place of a cause, as a command prints them: those of the language's refusal (docs/reference/hex2.md and m1.md)
abbrev pub hex_cause_number : HexCause → ℕ
hex_cause_number (hex_cause.OddDigits at) = 1
hex_cause_number (hex_cause.BadField at) = 2
hex_cause_number (hex_cause.Dangling at) = 3
hex_cause_number (hex_cause.DoubleLabel index) = 4
hex_cause_number (hex_cause.NoLabel index) = 5
hex_cause_number (hex_cause.OutOfReach index) = 6
hex_cause_number hex_cause.TooLong = 7

abbrev pub hex_cause_place : HexCause → ℕ
hex_cause_place (hex_cause.OddDigits at) = at
hex_cause_place (hex_cause.BadField at) = at
hex_cause_place (hex_cause.Dangling at) = at
hex_cause_place (hex_cause.DoubleLabel index) = index
hex_cause_place (hex_cause.NoLabel index) = index
hex_cause_place (hex_cause.OutOfReach index) = index
hex_cause_place hex_cause.TooLong = 0

abbrev pub m1_cause_number : M1Cause → ℕ
m1_cause_number (m1_cause.BadDefine at) = 1
m1_cause_number (m1_cause.DoubleDefine at) = 2
m1_cause_number (m1_cause.OpenString at) = 3
m1_cause_number (m1_cause.UnknownWord at) = 4
m1_cause_number (m1_cause.NumberRange at) = 5
m1_cause_number (m1_cause.Dangling at) = 6
m1_cause_number m1_cause.TooLong = 7

abbrev pub m1_cause_place : M1Cause → ℕ
m1_cause_place (m1_cause.BadDefine at) = at
m1_cause_place (m1_cause.DoubleDefine at) = at
m1_cause_place (m1_cause.OpenString at) = at
m1_cause_place (m1_cause.UnknownWord at) = at
m1_cause_place (m1_cause.NumberRange at) = at
m1_cause_place (m1_cause.Dangling at) = at
m1_cause_place m1_cause.TooLong = 0
