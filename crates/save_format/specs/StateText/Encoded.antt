-- How a state is written, and which states have a text.
use Rattle.std.specs.Prelude.{◌≡◌, ◌⊎◌, ℕ, ◌+◌, ◌^◌, ◌<◌, ◌≤◌, if◌then◌else◌, IsTrue, Option, None, Some, List, [], ◌∷◌, ◌++◌, length}
use Rattle.std.specs.List.{flat_map}
use Rattle.std.specs.Int.{w16, w32, w64}
use Rattle.save_format.specs.ByteFields.Spelling.{Alike, Counted, IsBlob, blob_text, list_text, number_text}
use Rattle.mem_files.specs.Lists.{ListedFile}
use Rattle.mem_files.specs.declared.open_file.OpenFile.{OpenFile}
use Rattle.mem_files.specs.declared.open_file.OpenFile.TheVariants as open_file
use Rattle.mem_files.specs.declared.open_file.Mode.{Mode}
use Rattle.mem_files.specs.declared.open_file.Mode.TheVariants as mode
use Rattle.mem_files.specs.declared.open_file.Access.{Access}
use Rattle.linux_calls.specs.declared.Heap.{Heap}
use Rattle.save_format.specs.declared.byte_fields.form.TextForm.{TextForm}
use Rattle.save_format.specs.declared.byte_fields.form.TextForm.TheVariants.{First, Second}
use Rattle.save_format.specs.declared.state_text.parts.Run.{Run}
use Rattle.save_format.specs.StateText.StateText.{PageText, StateText, after_descriptor, after_file, after_page, after_run, is_page, state_magic}

-- ---- how it is spelled

abbrev pub u64s : List ℕ → List ℕ
u64s numbers = flat_map (number_text w64) numbers

abbrev pub reserved_count : Option (ℕ × ℕ) → ℕ
reserved_count None = 0
reserved_count (Some held) = held.0

abbrev pub reserved_text : Option (ℕ × ℕ) → List ℕ
reserved_text None = []
reserved_text (Some held) = number_text w64 held.1

abbrev pub reservation_text : TextForm → Option (ℕ × ℕ) → List ℕ
reservation_text First held = []
reservation_text Second held = reserved_count held ∷ reserved_text held

abbrev pub heap_text : Heap → List ℕ
heap_text heap = number_text w64 heap.first ++ (number_text w64 heap.now ++ number_text w64 heap.limit)

abbrev pub run_text : Run → List ℕ
run_text run = number_text w32 run.first ++ number_text w32 run.pages

abbrev pub page_text : PageText → List ℕ
page_text page = number_text w32 page.number ++ page.bytes

abbrev pub name_bytes : Option (List ℕ) → List ℕ
name_bytes None = []
name_bytes (Some name) = name

abbrev pub file_text : ListedFile → List ℕ
file_text file = number_text w32 file.number ++ (blob_text w16 (name_bytes file.name) ++ blob_text w32 file.content)

-- its name and its content are short enough for their lengths
abbrev pub IsShortFile : ListedFile → Type 0
IsShortFile file = (length (name_bytes file.name) < 2 ^ 16) × (length file.content < 2 ^ 32)

abbrev pub mode_bits : Mode → ℕ
mode_bits mode.Read = 1
mode_bits mode.Write = 2
mode_bits mode.ReadWrite = 3

abbrev pub flags_of : Access → ℕ
flags_of access = mode_bits access.mode + (if access.appends then 4 else 0)

abbrev pub kind_of : OpenFile → ℕ
kind_of open_file.Input = 0
kind_of open_file.Stream1 = 1
kind_of open_file.Stream2 = 2
kind_of (open_file.File number cursor access) = 3

abbrev pub open_file_text : OpenFile → List ℕ
open_file_text open_file.Input = []
open_file_text open_file.Stream1 = []
open_file_text open_file.Stream2 = []
open_file_text (open_file.File number cursor access) = number_text w32 number ++ (number_text w64 cursor ++ flags_of access ∷ [])

abbrev pub descriptor_text : ℕ × OpenFile → List ℕ
descriptor_text d = number_text w32 d.0 ++ (kind_of d.1 ∷ open_file_text d.1)

unfoldable pub body_text : TextForm → StateText → List ℕ
body_text form s =
    number_text w64 s.steps ++ (number_text w64 s.pc ++ (u64s s.registers ++ (reservation_text form s.reservation ++ (heap_text s.heap
    ++ (list_text run_text s.runs ++ (list_text page_text s.pages ++ (list_text file_text s.files ++ (list_text descriptor_text s.descriptors
    ++ (blob_text w32 s.stream1 ++ blob_text w32 s.stream2)))))))))

abbrev pub state_text_in : TextForm → StateText → List ℕ
state_text_in form s = state_magic form ++ body_text form s

-- new texts are written in format 2
abbrev pub text_of_state : StateText → List ℕ
text_of_state s = state_text_in Second s

abbrev pub old_text_of_state : StateText → List ℕ
old_text_of_state s = state_text_in First s

-- ---- which have a text

-- 4 or 8 bytes are reserved, or none
abbrev pub IsReserved : Option (ℕ × ℕ) → Type 0
IsReserved None = Unit {0}
IsReserved (Some held) = ((held.0 ≡ 4) ⊎ (held.0 ≡ 8)) × (held.1 < 2 ^ 64)

-- format 1 has no reservation
abbrev pub HasFieldIn : TextForm → Option (ℕ × ℕ) → Type 0
HasFieldIn First reservation = reservation ≡ None
HasFieldIn Second reservation = Unit {0}

pub record IsHeap (heap : Heap) : Type 0 where
  pub first : heap.first < 2 ^ 64
  pub now : heap.now < 2 ^ 64
  pub limit : heap.limit < 2 ^ 64

pub record IsSavedRun (least : ℕ) (run : Run) : Type 0 where
  pub from : least ≤ run.first
  pub first : run.first < 2 ^ 32
  pub some : 1 ≤ run.pages
  pub pages : run.pages < 2 ^ 32

pub record IsPage (least : ℕ) (page : PageText) : Type 0 where
  pub from : least ≤ page.number
  pub number : page.number < 2 ^ 32
  pub full : length page.bytes ≡ 4096
  pub some : IsTrue (is_page page.bytes)

-- a name has at least one byte
abbrev pub IsNameText : Option (List ℕ) → Type 0
IsNameText None = Unit {0}
IsNameText (Some name) = (1 ≤ length name) × (length name < 2 ^ 16)

pub record IsFile (least : ℕ) (file : ListedFile) : Type 0 where
  pub from : least ≤ file.number
  pub number : file.number < 2 ^ 32
  pub name : IsNameText file.name
  pub content : IsBlob (2 ^ 32) file.content

abbrev pub IsOpenFile : OpenFile → Type 0
IsOpenFile open_file.Input = Unit {0}
IsOpenFile open_file.Stream1 = Unit {0}
IsOpenFile open_file.Stream2 = Unit {0}
IsOpenFile (open_file.File number cursor access) = (number < 2 ^ 32) × (cursor < 2 ^ 64)

pub record IsDescriptor (least : ℕ) (d : ℕ × OpenFile) : Type 0 where
  pub from : least ≤ d.0
  pub fd : d.0 < 2 ^ 32
  pub open_file : IsOpenFile d.1

pub record IsStateText (s : StateText) : Type 0 where
  pub steps : s.steps < 2 ^ 64
  pub pc : s.pc < 2 ^ 64
  pub registers : length s.registers ≡ 31
  pub register : Alike (λ n. n < 2 ^ 64) s.registers
  pub reservation : IsReserved s.reservation
  pub heap : IsHeap s.heap
  pub runs : Counted IsSavedRun after_run 0 s.runs
  pub pages : Counted IsPage after_page 0 s.pages
  pub files : Counted IsFile after_file 0 s.files
  pub descriptors : Counted IsDescriptor after_descriptor 0 s.descriptors
  pub stream1 : IsBlob (2 ^ 32) s.stream1
  pub stream2 : IsBlob (2 ^ 32) s.stream2

-- ---- which are its texts

-- a state has one text in format 2; without a reservation it also has one in format 1
abbrev pub IsTextOfState : StateText → List ℕ → Type 0
IsTextOfState s text = (text ≡ text_of_state s) ⊎ ((s.reservation ≡ None) × (text ≡ old_text_of_state s))
