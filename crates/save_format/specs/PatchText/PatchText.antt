-- The fields of a patch: a state, relative to the state that is its base; and how they are read.
-- docs/reference/delta.md is the page for readers.
use Rattle.std.specs.Prelude.{ℕ, zero, suc, ◌+◌, ◌/◌, ◌%◌, ◌^◌, Bool, true, false, ◌&&◌, not, ◌==◌, nat_le, bytes_eq, Option, None, Some, option_map, unwrap_or, List, [], ◌∷◌, Result}
use Rattle.std.specs.Int.{w16}
use Rattle.save_format.specs.ByteFields.Reader.{Reader, ◌>>=◌, begun, blob, byte, bytes, counted, done, that, u32, u32_from, u64, whole}
use Rattle.mem_files.specs.Lists.{ListedFile}
use Rattle.save_format.specs.StateText.StateText.{PageText, StateText, after_descriptor, after_file, after_run, descriptor_at, heap_at, is_page, optional_name, reservation_at, run_at}
use Rattle.save_format.specs.declared.byte_fields.form.TextForm.TheVariants.{Second}
use Rattle.save_format.specs.PatchText.Numbered.{items_from, item_numbered}

-- the eight bytes that begin each text: `ddcdiff2`
abbrev pub patch_magic : List ℕ
patch_magic = 100 ∷ 100 ∷ 99 ∷ 100 ∷ 105 ∷ 102 ∷ 102 ∷ 50 ∷ []

-- ---- registers

-- a marked register has another value than the base's; an unmarked one has the base's
unfoldable pub register_at : ℕ → Bool → Reader ℕ
register_at known true = that (λ value. not (known == value)) u64
register_at known false = done known

-- one mark for each register, the lowest register first
unfoldable pub marked_at : ℕ → List ℕ → Reader (List ℕ)
marked_at marks [] = done []
marked_at marks (known ∷ more) = do
  value ← register_at known (marks % 2 == 1)
  values ← marked_at (marks / 2) more
  done (value ∷ values)

-- bit 0 would be the mark of x0, which is always 0; it must be 0
unfoldable pub marked_registers_at : List ℕ → Reader (List ℕ)
marked_registers_at base = do
  marks ← that (λ marks. marks % 2 == 0) u32
  marked_at (marks / 2) base

-- ---- what is kept of the base, by number

-- do both states have the same content here, or none?
abbrev pub equal_contents : Option (List ℕ) → Option (List ℕ) → Bool
equal_contents None None = true
equal_contents None (Some found) = false
equal_contents (Some known) None = false
equal_contents (Some known) (Some found) = bytes_eq known found

abbrev pub is_new : Option (List ℕ) → List ℕ → Bool
is_new known found = not (equal_contents known (Some found))

-- the byte in front of bytes that may be there: 1 if they are, or 0, which is allowed only if the base has bytes here
abbrev pub is_mark : Option (List ℕ) → ℕ → Bool
is_mark None mark = mark == 1
is_mark (Some known) mark = nat_le mark 1

-- ---- pages

-- a page that only one of two states lists, or that both list with different bytes; None: only the base lists it
pub record PageChange : Type 0 where
  pub number : ℕ
  pub bytes : Option (List ℕ)

abbrev pub page_in : List PageText → ℕ → Option (List ℕ)
page_in pages number = option_map (λ page. page.bytes) (item_numbered (λ page. page.number) pages number)

unfoldable pub page_bytes_at : Option (List ℕ) → ℕ → Reader (Option (List ℕ))
page_bytes_at known zero = done None
page_bytes_at known (suc more) = do
  found ← that (λ found. is_page found && is_new known found) (bytes 4096)
  done (Some found)

-- the fields after the number of a page, given the base's bytes of it
unfoldable pub changed_bytes_at : Option (List ℕ) → Reader (Option (List ℕ))
changed_bytes_at known = do
  mark ← that (is_mark known) byte
  page_bytes_at known mark

unfoldable pub change_at : List PageText → ℕ → Reader PageChange
change_at base least = do
  number ← u32_from least
  found ← changed_bytes_at (page_in base number)
  done (record { number = number; bytes = found })

abbrev pub after_change : PageChange → ℕ
after_change change = change.number + 1

-- the pages of a state with these changes from the base
abbrev pub page_of : ℕ → Option (List ℕ) → Option PageText
page_of number found = option_map (λ bytes. record { number = number; bytes = bytes }) found

abbrev pub bytes_changed_by : Option (List ℕ) → Option PageChange → Option (List ℕ)
bytes_changed_by known None = known
bytes_changed_by known (Some change) = change.bytes

unfoldable pub changed_pages : List PageText → List PageChange → List PageText
changed_pages base page_changes =
    items_from (λ number. page_of number (bytes_changed_by (page_in base number) (item_numbered (λ change. change.number) page_changes number))) 0 (2 ^ 32)

unfoldable pub changed_pages_at : List PageText → Reader (List PageText)
changed_pages_at base = do
  page_changes ← counted (change_at base) after_change 0
  done (changed_pages base page_changes)

-- ---- contents

unfoldable pub new_content_at : Option (List ℕ) → Reader (List ℕ)
new_content_at known = do
  count ← u32
  that (is_new known) (bytes count)

unfoldable pub marked_content_at : Option (List ℕ) → ℕ → Reader (List ℕ)
marked_content_at known zero = done (unwrap_or known [])
marked_content_at known (suc more) = new_content_at known

-- the base's content, or other bytes preceded by their length
unfoldable pub content_relative_at : Option (List ℕ) → Reader (List ℕ)
content_relative_at known = do
  mark ← that (is_mark known) byte
  marked_content_at known mark

abbrev pub content_in : List ListedFile → ℕ → Option (List ℕ)
content_in files number = option_map (λ file. file.content) (item_numbered (λ file. file.number) files number)

unfoldable pub patched_file_at : List ListedFile → ℕ → Reader ListedFile
patched_file_at base least = do
  number ← u32_from least
  name ← blob w16
  content ← content_relative_at (content_in base number)
  done (record { number = number; name = optional_name name; content = content })

-- ---- the whole

unfoldable pub patch_body_at : StateText → Reader StateText
patch_body_at base = do
  steps ← u64
  pc ← u64
  registers ← marked_registers_at base.registers
  reservation ← reservation_at Second
  heap ← heap_at
  runs ← counted run_at after_run 0
  pages ← changed_pages_at base.pages
  files ← counted (patched_file_at base.files) after_file 0
  descriptors ← counted descriptor_at after_descriptor 0
  stream1 ← content_relative_at (Some base.stream1)
  stream2 ← content_relative_at (Some base.stream2)
  done (record { steps = steps; pc = pc; registers = registers; reservation = reservation; heap = heap; runs = runs; pages = pages; files = files; descriptors = descriptors; stream1 = stream1; stream2 = stream2 })

unfoldable pub patch_at : StateText → Reader StateText
patch_at base = do
  start ← begun patch_magic
  patch_body_at base

-- the state in a text, relative to its base, or the offset of its first wrong field: nothing follows the patch
unfoldable pub parsed_patch : StateText → List ℕ → Result StateText ℕ
parsed_patch base text = whole (patch_at base) text
