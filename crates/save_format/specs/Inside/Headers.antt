-- Texts split after their first fields, which reading, skipping and the functions for the fields in front of the pages share.
use Rattle.std.specs.Prelude.{◌≡◌, ℕ, None, Some, List, option_map, Result, Ok, Err}
use Rattle.std.specs.Int.{w32}
use Rattle.save_format.specs.ByteFields.Reader.{Read, Reader, ◌>>=◌, blob, counted, done, several}
use Rattle.save_format.specs.StateText.StateText.{StateText, after_descriptor, after_file, after_page, after_run, descriptor_at, file_at, page_at, run_at}
use Rattle.save_format.specs.StateText.Seen.{reserved_view}
use Rattle.save_format.specs.PatchText.PatchText.{changed_pages_at, content_relative_at, patch_at, patched_file_at}
use Rattle.save_format.specs.SaveText.{SaveText, StageText, after_left, saved_left_at}
use Rattle.save_format.specs.DeltaText.DeltaText.{DeltaText}
use Rattle.save_format.specs.DeltaText.Stages.{stages_relative_at}
use Rattle.ddc_base.specs.declared.digests.Digest.{Digest}
use Rattle.save_format.specs.declared.byte_fields.cursor.WrongField.{WrongField}
use Rattle.save_format.specs.declared.state_text.parts.HeaderNumbers.{HeaderNumbers}
use Rattle.save_format.specs.declared.parts.StageHeader.{StageHeader}

-- a function read the first fields, and the rest is read after them; or it found one of them wrong
abbrev pub ReadsHeader : {X Y : Type 0} → (X → Reader Y) → Result X WrongField → List ℕ → Read Y → Type 0
ReadsHeader rest (Ok header) left read = read ≡ rest header left
ReadsHeader rest (Err field) left read = read ≡ Err field.remaining

-- the fields after the numbers of a state
unfoldable pub lists_at : HeaderNumbers → Reader StateText
lists_at numbers = do
  runs ← counted run_at after_run 0
  pages ← counted page_at after_page 0
  files ← counted file_at after_file 0
  descriptors ← counted descriptor_at after_descriptor 0
  stream1 ← blob w32
  stream2 ← blob w32
  done (record { steps = numbers.steps; pc = numbers.pc; registers = numbers.registers; reservation = option_map reserved_view numbers.reservation; heap = numbers.heap; runs = runs; pages = pages; files = files; descriptors = descriptors; stream1 = stream1; stream2 = stream2 })

-- the fields after the numbers of a patch
unfoldable pub lists_relative_at : StateText → HeaderNumbers → Reader StateText
lists_relative_at base numbers = do
  runs ← counted run_at after_run 0
  pages ← changed_pages_at base.pages
  files ← counted (patched_file_at base.files) after_file 0
  descriptors ← counted descriptor_at after_descriptor 0
  stream1 ← content_relative_at (Some base.stream1)
  stream2 ← content_relative_at (Some base.stream2)
  done (record { steps = numbers.steps; pc = numbers.pc; registers = numbers.registers; reservation = option_map reserved_view numbers.reservation; heap = numbers.heap; runs = runs; pages = pages; files = files; descriptors = descriptors; stream1 = stream1; stream2 = stream2 })

-- the fields after the digest of a delta's base
unfoldable pub stages_and_state_at : SaveText → Digest → Reader DeltaText
stages_and_state_at base digest = do
  stages ← stages_relative_at base.stages
  state ← patch_at base.state
  done (record { base = digest; stages = stages; state = state })

-- the fields after the first ones of a finished stage
unfoldable pub left_and_made_at : StageHeader → Reader StageText
left_and_made_at header = do
  left ← several saved_left_at after_left None header.count
  made ← blob w32
  done (record { steps = header.steps; stream1 = header.stream1; stream2 = header.stream2; left = left; made = made })
