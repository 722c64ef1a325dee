-- The text of a guest's state, and the guest of a parsed text. docs/reference/save.md says the same for people.
use Rattle.std.specs.Prelude.{◌≡◌, ◌*◌, ◌%◌, IsTrue, [], ◌∷◌, All, drop, ℕ, List, Result, Ok, Err}
use Rattle.std.specs.FinMap as finite
use Rattle.paged_mem.specs.Memory.{Memory, maps}
use Rattle.mem_files.specs.Lists.{AreInRange, AreJoined, FileLists, lists_of, world_of}
use Rattle.rv64_machine.specs.Hart.{IsReservation}
use Rattle.guest_run.specs.State.{GuestState}
use Rattle.guest_run.specs.Valid.{Fits}
use Rattle.checkpoints.specs.MemoryParts.Canonical.{with_pages, mapped_runs, pages_of, runs_of}
use Rattle.save_format.specs.StateText.Mappable.{AreMappable}
use Rattle.save_format.specs.StateText.StateText.{StateText, parsed_state}
use Rattle.checkpoints.specs.declared.file_parts.restoring.RestoreRefusal.{RestoreRefusal}
use Rattle.checkpoints.specs.declared.file_parts.restoring.RestoreRefusal.TheVariants as restored
use Rattle.checkpoints.specs.declared.reading.StateRefusal.{StateRefusal}
use Rattle.checkpoints.specs.declared.reading.StateRefusal.TheVariants as state

-- the contents of a guest's state, in order: runs of mapped pages, pages that are not all zeros, files and descriptors. x0 is left out
unfoldable pub state_of : GuestState → StateText
state_of g = record {
  steps = g.steps;
  pc = g.hart.pc;
  registers = drop 1 g.hart.registers;
  reservation = g.hart.reservation;
  heap = g.heap;
  runs = runs_of g.hart.memory;
  pages = pages_of g.hart.memory;
  files = (lists_of g.world).files;
  descriptors = (lists_of g.world).open_files;
  stream1 = g.world.stream1;
  stream2 = g.world.stream2;
}

-- the memory of a parsed text: its runs filled with zeros, and its pages written into them
abbrev pub mapped_of : StateText → Memory
mapped_of s = mapped_runs finite.empty s.runs

abbrev pub memory_of : StateText → Memory
memory_of s = with_pages (mapped_of s) s.pages

-- the files of a parsed text
abbrev pub lists_in : StateText → FileLists
lists_in s = record { files = s.files; open_files = s.descriptors; streams = s.stream1 ∷ s.stream2 ∷ [] }

-- the guest of a parsed text; x0 is 0
unfoldable pub guest_of : StateText → GuestState
guest_of s = record {
  hart = record { registers = 0 ∷ s.registers; pc = s.pc; memory = memory_of s; reservation = s.reservation };
  world = world_of (lists_in s);
  heap = s.heap;
  steps = s.steps;
}

-- runs and pages make a memory: the runs can be mapped, and each listed page is in one of them
pub record IsInMemory (s : StateText) : Type 0 where
  pub runs : AreMappable s.runs
  pub listed : All (λ page. IsTrue (maps (mapped_of s) (4096 * page.number) 4096)) s.pages

-- counts and ranges are right: the pc is a multiple of 4, a hart can hold the reservation, and runs and pages make a memory that fits the
-- heap. Files, descriptors and streams are within their limits
pub record IsInRange (s : StateText) : Type 0 where
  pub aligned : s.pc % 4 ≡ 0
  pub reserved : IsReservation s.reservation
  pub memory : IsInMemory s
  pub fits : Fits (memory_of s) s.heap
  pub files : AreInRange (lists_in s)

-- references are right
abbrev pub IsJoined : StateText → Type 0
IsJoined s = AreJoined (lists_in s)

-- memory is taken for a state only if the pc is a multiple of 4, a hart can hold the reservation, and the runs can be mapped
pub record MayBeMade (s : StateText) : Type 0 where
  pub aligned : s.pc % 4 ≡ 0
  pub reserved : IsReservation s.reservation
  pub runs : AreMappable s.runs

-- the result of a parsed text: the guest, if counts and ranges are right, and then references
abbrev pub Becomes : StateText → Result GuestState RestoreRefusal → Type 0
Becomes s (Ok guest) = IsInRange s × IsJoined s × (guest ≡ guest_of s)
Becomes s (Err restored.Range) = ¬ (IsInRange s)
Becomes s (Err restored.FileRef) = IsInRange s × ¬ (IsJoined s)
Becomes s (Err restored.OutOfMemory) = MayBeMade s

-- memory may run out for this text: its form is right, and memory is taken for its state
abbrev pub MayWantMemory : List ℕ → Type 0
MayWantMemory text = (s : StateText) × (parsed_state text ≡ Ok s) × MayBeMade s

-- the result of reading a text: its form is checked first, then counts and ranges, then references
abbrev pub ReadsState : List ℕ → Result GuestState StateRefusal → Type 0
ReadsState text (Ok guest) = (s : StateText) × (parsed_state text ≡ Ok s) × IsInRange s × IsJoined s × (guest ≡ guest_of s)
ReadsState text (Err (state.Form offset)) = parsed_state text ≡ Err offset
ReadsState text (Err state.Range) = (s : StateText) × (parsed_state text ≡ Ok s) × ¬ (IsInRange s)
ReadsState text (Err state.FileRef) = (s : StateText) × (parsed_state text ≡ Ok s) × IsInRange s × ¬ (IsJoined s)
ReadsState text (Err state.OutOfMemory) = MayWantMemory text

-- the result of reading the text of this state
abbrev pub IsReadAs : GuestState → Result GuestState StateRefusal → Type 0
IsReadAs g (Ok guest) = guest ≡ g
IsReadAs g (Err state.OutOfMemory) = Unit {0}
IsReadAs g (Err (state.Form offset)) = ⊥
IsReadAs g (Err state.Range) = ⊥
IsReadAs g (Err state.FileRef) = ⊥

-- the number of a refusal
abbrev pub state_refusal_number : StateRefusal → ℕ
state_refusal_number (state.Form offset) = 1
state_refusal_number state.Range = 2
state_refusal_number state.FileRef = 3
state_refusal_number state.OutOfMemory = 4
