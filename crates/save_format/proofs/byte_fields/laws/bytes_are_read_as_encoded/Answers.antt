use Rattle.save_format.proofs.ByteFieldsLemmas.Law.{law}
use Rattle.save_format.proofs.ByteFieldsLemmas.Encodes.{encodes, encodes_begun, encodes_blob16, encodes_blob32, encodes_byte, encodes_bytes}
use Rattle.std.proofs.Common.{refl}
use Rattle.save_format.proofs.byte_fields.laws.bytes_are_read_as_encoded.Goals as goal

pub returns-clause-one : goal.returns-clause-one
returns-clause-one c = law encodes_byte

pub returns-clause-many : goal.returns-clause-many
returns-clause-many c = λ count. law (encodes (encodes_bytes count) (λ xs cut. refl) (λ xs cut. cut.long) (λ xs long. record { long = long }))

pub returns-clause-counted_by_two : goal.returns-clause-counted_by_two
returns-clause-counted_by_two c = law encodes_blob16

pub returns-clause-counted_by_four : goal.returns-clause-counted_by_four
returns-clause-counted_by_four c = law encodes_blob32

pub returns-clause-beginning : goal.returns-clause-beginning
returns-clause-beginning c = λ magic long. law (encodes_begun magic long)
