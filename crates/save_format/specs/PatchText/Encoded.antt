-- How a state is written relative to a base, and which states have such a text.
use Rattle.std.specs.Prelude.{◌≡◌, ℕ, ◌+◌, ◌*◌, ◌^◌, ◌<◌, ◌==◌, if◌then◌else◌, Option, None, Some, List, [], ◌∷◌, ◌++◌, length}
use Rattle.std.specs.Int.{w16, w32, w64}
use Rattle.save_format.specs.ByteFields.Spelling.{Alike, Counted, InTurn, IsBlob, blob_text, list_text, number_text}
use Rattle.mem_files.specs.Lists.{ListedFile}
use Rattle.save_format.specs.StateText.StateText.{PageText, StateText, after_descriptor, after_file, after_page, after_run}
use Rattle.save_format.specs.StateText.Encoded.{IsDescriptor, IsFile, IsHeap, IsPage, IsReserved, IsSavedRun, descriptor_text, heap_text, name_bytes, reservation_text, run_text}
use Rattle.save_format.specs.declared.byte_fields.form.TextForm.TheVariants.{Second}
use Rattle.save_format.specs.PatchText.Numbered.{items_from}
use Rattle.save_format.specs.PatchText.PatchText.{PageChange, content_in, patch_magic, page_in, equal_contents}

-- ---- how it is spelled

abbrev pub register_text : ℕ → ℕ → List ℕ
register_text known value = if known == value then [] else number_text w64 value

-- bit i is set if the register at i differs
unfoldable pub marks_of : List ℕ → List ℕ → ℕ
marks_of [] values = 0
marks_of (known ∷ more) [] = 0
marks_of (known ∷ more) (value ∷ values) = (if known == value then 0 else 1) + 2 * marks_of more values

unfoldable pub values_text : List ℕ → List ℕ → List ℕ
values_text [] values = []
values_text (known ∷ more) [] = []
values_text (known ∷ more) (value ∷ values) = register_text known value ++ values_text more values

abbrev pub marked_registers_text : List ℕ → List ℕ → List ℕ
marked_registers_text base values = number_text w32 (2 * marks_of base values) ++ values_text base values

-- the change of a page that only one of two states lists, or that both list with different bytes
abbrev pub page_change_of : ℕ → Option (List ℕ) → Option (List ℕ) → Option PageChange
page_change_of number known found = if equal_contents known found then None else Some (record { number = number; bytes = found })

unfoldable pub page_changes : List PageText → List PageText → List PageChange
page_changes base pages = items_from (λ number. page_change_of number (page_in base number) (page_in pages number)) 0 (2 ^ 32)

abbrev pub changed_bytes_text : Option (List ℕ) → List ℕ
changed_bytes_text None = 0 ∷ []
changed_bytes_text (Some bytes) = 1 ∷ bytes

abbrev pub change_text : PageChange → List ℕ
change_text change = number_text w32 change.number ++ changed_bytes_text change.bytes

abbrev pub page_changes_text : List PageText → List PageText → List ℕ
page_changes_text base pages = list_text change_text (page_changes base pages)

abbrev pub content_relative_text : Option (List ℕ) → List ℕ → List ℕ
content_relative_text known content = if equal_contents known (Some content) then 0 ∷ [] else 1 ∷ blob_text w32 content

abbrev pub patched_file_text : List ListedFile → ListedFile → List ℕ
patched_file_text base file =
    number_text w32 file.number ++ (blob_text w16 (name_bytes file.name) ++ content_relative_text (content_in base file.number) file.content)

unfoldable pub patch_body_text : StateText → StateText → List ℕ
patch_body_text base s =
    number_text w64 s.steps ++ (number_text w64 s.pc ++ (marked_registers_text base.registers s.registers ++ (reservation_text Second s.reservation ++ (heap_text s.heap
    ++ (list_text run_text s.runs ++ (page_changes_text base.pages s.pages ++ (list_text (patched_file_text base.files) s.files ++ (list_text descriptor_text s.descriptors
    ++ (content_relative_text (Some base.stream1) s.stream1 ++ content_relative_text (Some base.stream2) s.stream2)))))))))

-- the patch of a state relative to a base
abbrev pub text_of_patch : StateText → StateText → List ℕ
text_of_patch base s = patch_magic ++ patch_body_text base s

-- ---- which have a text

-- valid pages of rising numbers; the pages that differ from the base's are few enough for a count
pub record ArePatchedPages (base pages : List PageText) : Type 0 where
  pub turn : InTurn IsPage after_page 0 pages
  pub few : length (page_changes base pages) < 2 ^ 32

pub record IsPatched (base s : StateText) : Type 0 where
  pub steps : s.steps < 2 ^ 64
  pub pc : s.pc < 2 ^ 64
  pub registers : length s.registers ≡ 31
  pub register : Alike (λ n. n < 2 ^ 64) s.registers
  pub reservation : IsReserved s.reservation
  pub heap : IsHeap s.heap
  pub runs : Counted IsSavedRun after_run 0 s.runs
  pub pages : ArePatchedPages base.pages s.pages
  pub files : Counted IsFile after_file 0 s.files
  pub descriptors : Counted IsDescriptor after_descriptor 0 s.descriptors
  pub stream1 : IsBlob (2 ^ 32) s.stream1
  pub stream2 : IsBlob (2 ^ 32) s.stream2
