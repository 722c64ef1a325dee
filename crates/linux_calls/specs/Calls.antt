-- The call table: what each call returns, and the memory, files and heap after it. The first rule that applies decides
-- (docs/reference/calls.md, "The table").
-- An error changes nothing.
use Rattle.std.specs.Prelude.{ℕ, ◌-◌, ◌%◌, ◌^◌, nat_le, not, ◌==◌, if◌then◌else◌, Result, Ok, Err, List, [], ◌∷◌, length, slice_index, bit_and}
use Rattle.std.specs.Int.{cast_signed, w64}
use Rattle.std.specs.FinMap.{get, contains_key}
use Rattle.ddc_base.specs.Results.{◌>>=◌, ◌>>◌, or_error, error_unless}
use Rattle.paged_mem.specs.Memory.{Memory, bytes_at, maps, with_bytes}
use Rattle.mem_files.specs.World.{World}
use Rattle.mem_files.specs.Calls.{removed, opened, closed, sought, ready, skipped, write_offset, written}
use Rattle.mem_files.specs.Linux.{enoent, ebadf, einval, o_accmode}
use Rattle.linux_calls.specs.declared.Heap.{Heap}
use Rattle.linux_calls.specs.Linux.{efault, sys_unlinkat, sys_faccessat, sys_fchmodat, sys_openat, sys_close, sys_lseek, sys_read, sys_write, sys_exit, sys_exit_group, sys_brk}
use Rattle.linux_calls.specs.Paths.{low, name_in_directory, name_at, in_directory}
use Rattle.linux_calls.specs.HeapOf.{break_heap, break_memory}

-- what a call reads and changes
pub record CallState : Type 0 where
  pub memory : Memory
  pub files : World
  pub heap : Heap

abbrev pub state : Memory → World → Heap → CallState
state memory files heap = record { memory = memory; files = files; heap = heap }

-- the outcome of a call: it returns to the guest with a value or an error, ends the program, or is unknown
pub data CallOutcome : Type 0 where
  goes : Result ℕ ℕ → CallState → CallOutcome
  exits : ℕ → CallOutcome
  is_unknown : ℕ → CallOutcome

-- what the guest gets: the value, or the error number negated modulo 2 ^ 64
abbrev pub answer_of : Result ℕ ℕ → ℕ
answer_of (Ok value) = value
answer_of (Err errno) = (2 ^ 64 - errno) % 2 ^ 64

-- a result for the guest, with the files after it
abbrev pub back : CallState → Result ℕ ℕ × World → CallOutcome
back s meant = goes meant.0 (record s { files = meant.1 })

-- a value with the state after it, or an error with the unchanged state
abbrev pub or_same_state : CallState → Result (ℕ × CallState) ℕ → CallOutcome
or_same_state s (Ok (value, next)) = goes (Ok value) next
or_same_state s (Err errno) = goes (Err errno) s

-- a result that is `value` if there is no error
abbrev pub answering : {A : Type 0} → ℕ → Result A ℕ × World → Result ℕ ℕ × World
answering value (Ok done, files) = (Ok value, files)
answering value (Err errno, files) = (Err errno, files)

-- the result of a call on the files, or an earlier error with the unchanged files
abbrev pub or_same_files : World → Result (Result ℕ ℕ × World) ℕ → Result ℕ ℕ × World
or_same_files w (Ok meant) = meant
or_same_files w (Err errno) = (Err errno, w)

abbrev pub unlinked : Memory → World → ℕ → ℕ → ℕ → Result ℕ ℕ × World
unlinked m w directory path flags = or_same_files w do
  name ← name_in_directory m w directory path
  error_unless einval (low flags == 0)
  Ok (answering 0 (removed w name))

abbrev pub accessed : Memory → World → ℕ → ℕ → ℕ → Result ℕ ℕ
accessed m w directory path mode = do
  name ← name_in_directory m w directory path
  error_unless einval (nat_le (low mode) 7)
  error_unless enoent (contains_key w.names name)
  Ok 0

-- the mode is not stored
abbrev pub mode_changed : Memory → World → ℕ → ℕ → Result ℕ ℕ
mode_changed m w directory path = do
  name ← name_in_directory m w directory path
  error_unless enoent (contains_key w.names name)
  Ok 0

-- the path is checked first, then the flags, then the directory
abbrev pub opened_as : Memory → World → ℕ → ℕ → ℕ → Result ℕ ℕ × World
opened_as m w directory path flags = or_same_files w do
  name ← name_at m path
  error_unless einval (not (bit_and (low flags) o_accmode == o_accmode))
  here ← in_directory w directory name
  Ok (opened w here (low flags))

-- the bytes that are ready are copied to memory, all or none
abbrev pub read_at : CallState → ℕ → ℕ → ℕ → Result (ℕ × CallState) ℕ
read_at s fd buffer count = do
  bytes ← ready s.files fd count
  if length bytes == 0 then Ok (0, s) else (do
    error_unless efault (maps s.memory buffer (length bytes))
    Ok (length bytes, record s { memory = with_bytes s.memory buffer bytes; files = skipped s.files fd (length bytes) }))

-- the bytes are copied from memory to the file, all or none
abbrev pub written_at : Memory → World → ℕ → ℕ → ℕ → Result ℕ ℕ × World
written_at m w fd buffer count = or_same_files w do
  offset ← or_error ebadf (write_offset w (get w.open_files fd))
  if count == 0 then Ok (Ok 0, w) else (do
    bytes ← or_error efault (bytes_at m buffer count)
    Ok (answering (length bytes) (written w fd bytes)))

-- brk returns the break after the call
abbrev pub moved_break : CallState → ℕ → CallOutcome
moved_break s to = goes (Ok (break_heap s.heap to).now) (record s {
  memory = break_memory s.memory s.heap to;
  heap = break_heap s.heap to;
})

-- the outcome in the row of a number; a number without a row is unknown
abbrev pub looked_up : ℕ → List (ℕ × CallOutcome) → CallOutcome
looked_up number [] = is_unknown number
looked_up number ((of, outcome) ∷ rows) = if number == of then outcome else looked_up number rows

-- the call table: the outcome of each call, by its number
abbrev pub syscall : ℕ → List ℕ → CallState → CallOutcome
syscall number arguments s =
    let a = slice_index arguments 0 in
    let b = slice_index arguments 1 in
    let c = slice_index arguments 2 in
    looked_up number
    ((sys_unlinkat, back s (unlinked s.memory s.files a b c))
    ∷ (sys_faccessat, back s (accessed s.memory s.files a b c, s.files))
    ∷ (sys_fchmodat, back s (mode_changed s.memory s.files a b, s.files))
    ∷ (sys_openat, back s (opened_as s.memory s.files a b c))
    ∷ (sys_close, back s (answering 0 (closed s.files (low a))))
    ∷ (sys_lseek, back s (sought s.files (low a) (cast_signed w64 b) (low c)))
    ∷ (sys_read, or_same_state s (read_at s (low a) b c))
    ∷ (sys_write, back s (written_at s.memory s.files (low a) b c))
    ∷ (sys_exit, exits (a % 256))
    ∷ (sys_exit_group, exits (a % 256))
    ∷ (sys_brk, moved_break s a)
    ∷ [])
