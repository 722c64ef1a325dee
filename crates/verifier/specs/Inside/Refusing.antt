-- The result of a check for a language's refusal: false, or out of memory for out of memory. No promise depends on its being read.
use Rattle.std.specs.Prelude.{◌≡◌, Bool, false, Result, Ok, IsErr}
use Rattle.ddc_base.specs.declared.byte_list.OutOfMemory.{OutOfMemory}
use Rattle.hex_langs.specs.declared.items.reader.HexRefusal.{HexRefusal}
use Rattle.hex_langs.specs.declared.items.reader.HexRefusal.TheVariants as hex
use Rattle.m1_lang.specs.declared.refusal.M1Refusal.{M1Refusal}
use Rattle.m1_lang.specs.declared.refusal.M1Refusal.TheVariants as m1

abbrev pub RefusesHex : HexRefusal → Result Bool OutOfMemory → Type 0
RefusesHex hex.OutOfMemory result = IsErr result
RefusesHex refusal result = result ≡ Ok false

abbrev pub RefusesM1 : M1Refusal → Result Bool OutOfMemory → Type 0
RefusesM1 m1.OutOfMemory result = IsErr result
RefusesM1 refusal result = result ≡ Ok false
