-- How a save is written, and which saves have a text.
use Rattle.std.specs.Prelude.{◌≡◌, ◌⊎◌, ℕ, ◌^◌, ◌<◌, true, Option, None, List, ◌++◌, All, length}
use Rattle.std.specs.Int.{w16, w32, w64}
use Rattle.ddc_base.specs.declared.digests.Digest.{Digest}
use Rattle.report.specs.declared.types.LeftLine.{LeftLine}
use Rattle.report.specs.declared.types.Mark.{Mark}
use Rattle.save_format.specs.ByteFields.Spelling.{Counted, IsBlob, blob_text, list_text, number_text}
use Rattle.save_format.specs.declared.byte_fields.form.TextForm.{TextForm}
use Rattle.save_format.specs.declared.byte_fields.form.TextForm.TheVariants.{First, Second}
use Rattle.save_format.specs.StateText.Encoded as state
use Rattle.save_format.specs.SaveText.{SaveText, StageText, after_left, comes_after, save_magic}

-- ---- how it is spelled

abbrev pub digest_text : Digest → List ℕ
digest_text digest = digest.0

unfoldable pub mark_text : Mark → List ℕ
mark_text mark = number_text w32 mark.length ++ digest_text mark.digest

abbrev pub left_text : LeftLine → List ℕ
left_text file = blob_text w16 file.name ++ mark_text file.mark

unfoldable pub stage_text : StageText → List ℕ
stage_text stage =
    number_text w64 stage.steps ++ (mark_text stage.stream1 ++ (mark_text stage.stream2 ++ (list_text left_text stage.left ++ blob_text w32 stage.made)))

unfoldable pub save_text_in : TextForm → SaveText → List ℕ
save_text_in form save =
    save_magic form ++ (digest_text save.recipe ++ (list_text digest_text save.inputs ++ (list_text stage_text save.stages ++ state.state_text_in form save.state)))

-- new texts are written in format 2
abbrev pub text_of_save : SaveText → List ℕ
text_of_save save = save_text_in Second save

abbrev pub old_text_of_save : SaveText → List ℕ
old_text_of_save save = save_text_in First save

-- its lengths fit their fields
pub record IsShortStage (stage : StageText) : Type 0 where
  pub stream1 : stage.stream1.length < 2 ^ 32
  pub stream2 : stage.stream2.length < 2 ^ 32
  pub few : length stage.left < 2 ^ 32
  pub names : All (λ file. length file.name < 2 ^ 16) stage.left
  pub contents : All (λ file. file.mark.length < 2 ^ 32) stage.left
  pub made : length stage.made < 2 ^ 32

-- ---- which have a text

pub record IsSavedDigest (digest : Digest) : Type 0 where
  pub full : length digest.0 ≡ 32

pub record IsSavedMark (mark : Mark) : Type 0 where
  pub length : mark.length < 2 ^ 32
  pub digest : IsSavedDigest mark.digest

pub record IsSavedLeft (last : Option (List ℕ)) (file : LeftLine) : Type 0 where
  pub short : length file.name < 2 ^ 16
  pub following : comes_after last file.name ≡ true
  pub mark : IsSavedMark file.mark

pub record IsStageText (stage : StageText) : Type 0 where
  pub steps : stage.steps < 2 ^ 64
  pub stream1 : IsSavedMark stage.stream1
  pub stream2 : IsSavedMark stage.stream2
  pub left : Counted IsSavedLeft after_left None stage.left
  pub made : IsBlob (2 ^ 32) stage.made

pub record IsSaveText (save : SaveText) : Type 0 where
  pub recipe : IsSavedDigest save.recipe
  pub inputs : Counted (λ (any : ℕ). IsSavedDigest) (λ input. 0) 0 save.inputs
  pub stages : Counted (λ (any : ℕ). IsStageText) (λ stage. 0) 0 save.stages
  pub state : state.IsStateText save.state

-- ---- which are its texts

-- a save has one text in format 2; without a reservation it also has one in format 1
abbrev pub IsTextOfSave : SaveText → List ℕ → Type 0
IsTextOfSave save text = (text ≡ text_of_save save) ⊎ ((save.state.reservation ≡ None) × (text ≡ old_text_of_save save))
