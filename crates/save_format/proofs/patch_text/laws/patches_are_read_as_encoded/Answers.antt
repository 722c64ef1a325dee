use Rattle.save_format.proofs.ByteFieldsLemmas.Law.{law}
use Rattle.save_format.proofs.PatchTextLemmas.Texts.{encodes_patch}
use Rattle.save_format.proofs.patch_text.laws.patches_are_read_as_encoded.Goals as goal

pub returns : goal.returns
returns c = λ base is. law (encodes_patch base is)
