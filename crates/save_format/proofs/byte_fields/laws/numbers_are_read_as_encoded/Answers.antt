use Rattle.std.proofs.Common.{◌^◌}
use Rattle.std.specs.Int.{w16}
use Rattle.save_format.proofs.ByteFieldsLemmas.Law.{law}
use Rattle.save_format.proofs.ByteFieldsLemmas.Encodes.{encodes_number, encodes_u32, encodes_u64, wide16}
use Rattle.save_format.proofs.byte_fields.laws.numbers_are_read_as_encoded.Goals as goal

pub returns-clause-two : goal.returns-clause-two
returns-clause-two c = law (encodes_number w16 (2 ^ 16) wide16)

pub returns-clause-four : goal.returns-clause-four
returns-clause-four c = law encodes_u32

pub returns-clause-eight : goal.returns-clause-eight
returns-clause-eight c = law encodes_u64
