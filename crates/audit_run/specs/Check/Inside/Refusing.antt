-- The result of a check for a language's refusal: its cause, or out of memory for out of memory.
use Rattle.std.specs.Prelude.{◌≡◌, Result, Ok, IsErr}
use Rattle.ddc_base.specs.declared.byte_list.OutOfMemory.{OutOfMemory}
use Rattle.hex_langs.specs.declared.items.reader.HexRefusal.{HexRefusal}
use Rattle.hex_langs.specs.declared.items.reader.HexRefusal.TheVariants as hex
use Rattle.m1_lang.specs.declared.refusal.M1Refusal.{M1Refusal}
use Rattle.m1_lang.specs.declared.refusal.M1Refusal.TheVariants as m1
use Rattle.audit_rules.specs.declared.source_check.cause.HexCause.{HexCause}
use Rattle.audit_rules.specs.declared.source_check.cause.M1Cause.{M1Cause}
use Rattle.audit_rules.specs.SourceCheck.Causes.{cause_of_hex, cause_of_m1}

abbrev pub RefusesHex : {A : Type 0} → (HexCause → A) → HexRefusal → Result A OutOfMemory → Type 0
RefusesHex say hex.OutOfMemory result = IsErr result
RefusesHex say refusal result = result ≡ Ok (say (cause_of_hex refusal))

abbrev pub RefusesM1 : {A : Type 0} → (M1Cause → A) → M1Refusal → Result A OutOfMemory → Type 0
RefusesM1 say m1.OutOfMemory result = IsErr result
RefusesM1 say refusal result = result ≡ Ok (say (cause_of_m1 refusal))
