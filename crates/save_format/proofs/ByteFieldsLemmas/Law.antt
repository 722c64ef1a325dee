-- The law of a field, from what its lemmas say.
use Rattle.std.proofs.Common.{ℕ, List, length, arith, inl, inr}
use Rattle.std.proofs.lemmas.Bool.{cases_lt}
use Rattle.std.proofs.lemmas.List.{get_or_past}
use Rattle.mem_files.specs.Sound as sound
use Rattle.save_format.specs.ByteFields.Law.{IsReadAsEncoded, IsReadInForms}
use Rattle.save_format.specs.ByteFields.Reader.{Reader}
use Rattle.save_format.specs.declared.byte_fields.form.TextForm.{TextForm}
use Rattle.save_format.proofs.ByteFieldsLemmas.Encodes.{AreBytes, Encodes, EncodesForms}

bytes_by : (bytes : List ℕ) → sound.AreBytes bytes → AreBytes bytes
bytes_by bytes all i =
    elim (cases_lt i (length bytes)) [
      | inl lt ↦ all i 0 lt
      | inr le ↦ rw (get_or_past bytes i 0 le) (omega arith)
    ]

pub law : {A : Type 0} {field : Reader A} {text : A → List ℕ} {F : A → Type 0} → Encodes field text F → IsReadAsEncoded field text F
law s = record {
  takes = λ remaining x rest bytes is. let taken = s.takes remaining x rest (bytes_by remaining bytes) is in (taken.0.parts, taken.1);
  again = s.again;
  within = λ remaining at bytes is. s.within remaining at (bytes_by remaining bytes) is;
}

pub law_of_forms : {A : Type 0} {field : Reader A} {text : TextForm → A → List ℕ} {F : TextForm → A → Type 0} → EncodesForms field text F → IsReadInForms field text F
law_of_forms s = record {
  takes = λ remaining x rest bytes is. let taken = s.takes remaining x rest (bytes_by remaining bytes) is in (taken.0, taken.1.parts, taken.2);
  again = s.again;
  within = λ remaining at bytes is. s.within remaining at (bytes_by remaining bytes) is;
}
