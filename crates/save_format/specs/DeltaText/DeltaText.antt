-- The fields of a delta: an audit's checkpoint, relative to the save that is its base; and how they are read.
-- docs/reference/delta.md is the page for readers.
use Rattle.std.specs.Prelude.{ℕ, List, [], ◌∷◌, ◌++◌, Result}
use Rattle.ddc_base.specs.declared.digests.Digest.{Digest}
use Rattle.save_format.specs.ByteFields.Reader.{Reader, ◌>>=◌, begun, done, whole}
use Rattle.save_format.specs.StateText.StateText.{StateText}
use Rattle.save_format.specs.SaveText.{SaveText, StageText, digest_at}
use Rattle.save_format.specs.Encoded.{IsSavedDigest, digest_text}
use Rattle.save_format.specs.PatchText.PatchText.{patch_at}
use Rattle.save_format.specs.PatchText.Encoded as patch
use Rattle.save_format.specs.DeltaText.Stages.{AreStagesRelative, stages_relative_at, stages_relative_text}

-- the digest of its base's text, the finished stages, and the state of the current guest
pub record DeltaText : Type 0 where
  pub base : Digest
  pub stages : List StageText
  pub state : StateText

-- the eight bytes that begin each text: `ddcdelt2`
abbrev pub delta_magic : List ℕ
delta_magic = 100 ∷ 100 ∷ 99 ∷ 100 ∷ 101 ∷ 108 ∷ 116 ∷ 50 ∷ []

-- the digest of its base, which is judged before the fields that follow
unfoldable pub delta_header_at : Reader Digest
delta_header_at = do
  start ← begun delta_magic
  digest_at

unfoldable pub delta_at : SaveText → Reader DeltaText
delta_at base = do
  start ← begun delta_magic
  digest ← digest_at
  stages ← stages_relative_at base.stages
  state ← patch_at base.state
  done (record { base = digest; stages = stages; state = state })

-- the delta in a text, relative to its base, or the offset of its first wrong field: nothing follows the patch
unfoldable pub parsed_delta : SaveText → List ℕ → Result DeltaText ℕ
parsed_delta base text = whole (delta_at base) text

abbrev pub text_of_delta : SaveText → DeltaText → List ℕ
text_of_delta base delta = delta_magic ++ (digest_text delta.base ++ (stages_relative_text base.stages delta.stages ++ patch.text_of_patch base.state delta.state))

pub record IsDelta (base : SaveText) (delta : DeltaText) : Type 0 where
  pub digest : IsSavedDigest delta.base
  pub stages : AreStagesRelative base.stages delta.stages
  pub state : patch.IsPatched base.state delta.state
