-- The fields of a state, and how they are read. docs/reference/save.md is the page for readers.
use Rattle.std.specs.Prelude.{ℕ, zero, suc, ◌+◌, ◌%◌, Bool, ◌&&◌, ◌||◌, not, ◌==◌, nat_le, nat_lt, Option, None, Some, List, [], ◌∷◌, Result}
use Rattle.std.specs.List.{list_all}
use Rattle.std.specs.Int.{w16, w32}
use Rattle.save_format.specs.ByteFields.Reader.{Reader, ◌>>=◌, alike, begun, begun_in, blob, byte, bytes, counted, done, that, u32, u32_from, u64, whole}
use Rattle.mem_files.specs.Lists.{ListedFile}
use Rattle.mem_files.specs.declared.open_file.OpenFile.{OpenFile}
use Rattle.mem_files.specs.declared.open_file.OpenFile.TheVariants as open_file
use Rattle.mem_files.specs.declared.open_file.Mode.{Mode}
use Rattle.mem_files.specs.declared.open_file.Mode.TheVariants as mode
use Rattle.mem_files.specs.declared.open_file.Access.{Access}
use Rattle.linux_calls.specs.declared.Heap.{Heap}
use Rattle.save_format.specs.declared.byte_fields.form.TextForm.{TextForm}
use Rattle.save_format.specs.declared.byte_fields.form.TextForm.TheVariants.{First, Second}
use Rattle.save_format.specs.declared.state_text.parts.Run.{Run}

-- ---- what a text says

pub record PageText : Type 0 where
  pub number : ℕ
  pub bytes : List ℕ

-- the registers are x1 to x31; a reservation is the number of reserved bytes and the address of the first
pub record StateText : Type 0 where
  pub steps : ℕ
  pub pc : ℕ
  pub registers : List ℕ
  pub reservation : Option (ℕ × ℕ)
  pub heap : Heap
  pub runs : List Run
  pub pages : List PageText
  pub files : List ListedFile
  pub descriptors : List (ℕ × OpenFile)
  pub stream1 : List ℕ
  pub stream2 : List ℕ

-- ---- how it is read

-- the eight bytes that begin each text of a format: `ddcstat1` and `ddcstat2`
abbrev pub state_magic : TextForm → List ℕ
state_magic First = 100 ∷ 100 ∷ 99 ∷ 115 ∷ 116 ∷ 97 ∷ 116 ∷ 49 ∷ []
state_magic Second = 100 ∷ 100 ∷ 99 ∷ 115 ∷ 116 ∷ 97 ∷ 116 ∷ 50 ∷ []

-- how many bytes can be reserved: none, 4 or 8
abbrev pub is_reserved_count : ℕ → Bool
is_reserved_count count = count == 0 || (count == 4 || count == 8)

-- `count` reserved bytes from an address on
unfoldable pub reserved_at : ℕ → Reader (Option (ℕ × ℕ))
reserved_at zero = done None
reserved_at (suc more) = do
  at ← u64
  done (Some (suc more, at))

-- the reservation; a text of format 1 has none
unfoldable pub reservation_at : TextForm → Reader (Option (ℕ × ℕ))
reservation_at First = done None
reservation_at Second = do
  count ← that is_reserved_count byte
  reserved_at count

unfoldable pub heap_at : Reader Heap
heap_at = do
  first ← u64
  now ← u64
  limit ← u64
  done (record { first = first; now = now; limit = limit })

-- a run begins at a page from `least` on, and has at least one page
unfoldable pub run_at : ℕ → Reader Run
run_at least = do
  first ← u32_from least
  pages ← u32_from 1
  done (record { first = first; pages = pages })

-- at least one unmapped page is between two runs
abbrev pub after_run : Run → ℕ
after_run run = run.first + run.pages + 1

-- a page is not all zeros
abbrev pub is_page : List ℕ → Bool
is_page bytes = not (list_all (λ b. b == 0) bytes)

unfoldable pub page_at : ℕ → Reader PageText
page_at least = do
  number ← u32_from least
  bytes ← that is_page (bytes 4096)
  done (record { number = number; bytes = bytes })

abbrev pub after_page : PageText → ℕ
after_page page = page.number + 1

-- no bytes: the file has no name
abbrev pub optional_name : List ℕ → Option (List ℕ)
optional_name [] = None
optional_name (byte ∷ more) = Some (byte ∷ more)

unfoldable pub file_at : ℕ → Reader ListedFile
file_at least = do
  number ← u32_from least
  name ← blob w16
  content ← blob w32
  done (record { number = number; name = optional_name name; content = content })

abbrev pub after_file : ListedFile → ℕ
after_file file = file.number + 1

-- bit 0: the file may be read, bit 1: it may be written, bit 2: each write goes to its end; one of the first two is set
abbrev pub are_flags : ℕ → Bool
are_flags flags = nat_lt flags 8 && not (flags % 4 == 0)

abbrev pub mode_of_code : ℕ → Mode
mode_of_code (suc zero) = mode.Read
mode_of_code (suc (suc zero)) = mode.Write
mode_of_code _ = mode.ReadWrite

abbrev pub access_of_code : ℕ → Access
access_of_code flags = record { mode = mode_of_code (flags % 4); appends = nat_le 4 flags }

unfoldable pub access_at : Reader Access
access_at = do
  flags ← that are_flags byte
  done (access_of_code flags)

-- the open file of a descriptor, by its kind
unfoldable pub open_file_at : ℕ → Reader OpenFile
open_file_at zero = done open_file.Input
open_file_at (suc zero) = done open_file.Stream1
open_file_at (suc (suc zero)) = done open_file.Stream2
open_file_at (suc (suc (suc more))) = do
  number ← u32
  cursor ← u64
  access ← access_at
  done (open_file.File number cursor access)

unfoldable pub descriptor_at : ℕ → Reader (ℕ × OpenFile)
descriptor_at least = do
  fd ← u32_from least
  kind ← that (λ kind. nat_le kind 3) byte
  open_file ← open_file_at kind
  done (fd, open_file)

abbrev pub after_descriptor : ℕ × OpenFile → ℕ
after_descriptor descriptor = descriptor.0 + 1

-- the fields after the magic of a format
unfoldable pub body_at : TextForm → Reader StateText
body_at form = do
  steps ← u64
  pc ← u64
  registers ← alike u64 31
  reservation ← reservation_at form
  heap ← heap_at
  runs ← counted run_at after_run 0
  pages ← counted page_at after_page 0
  files ← counted file_at after_file 0
  descriptors ← counted descriptor_at after_descriptor 0
  stream1 ← blob w32
  stream2 ← blob w32
  done (record { steps = steps; pc = pc; registers = registers; reservation = reservation; heap = heap; runs = runs; pages = pages; files = files; descriptors = descriptors; stream1 = stream1; stream2 = stream2 })

-- a state in this format
unfoldable pub state_in : TextForm → Reader StateText
state_in form = do
  start ← begun (state_magic form)
  body_at form

-- a state in either format
unfoldable pub state_at : Reader StateText
state_at = do
  form ← begun_in (state_magic First) (state_magic Second)
  body_at form

-- the state in a text, or the offset of its first wrong field: nothing follows the state
unfoldable pub parsed_state : List ℕ → Result StateText ℕ
parsed_state text = whole state_at text
