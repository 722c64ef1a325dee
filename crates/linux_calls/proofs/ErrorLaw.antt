-- An error changes nothing: each definition of a call gives back the state in an error.
use Rattle.std.proofs.Common.{◌≡◌, ℕ, ℤ, Bool, true, false, cond, Option, None, Some, Result, Ok, Err, IsErr, List, length, refl, ap}
use Rattle.std.specs.Prelude.{nat_le, bit_and, ◌%◌, ◌==◌, ◌&&◌, not, slice_index}
use Rattle.std.specs.FinMap as map
use Rattle.std.specs.Int.{cast_signed, w64}
use Rattle.ddc_base.specs.Results.{◌>>=◌}
use Rattle.ddc_base.proofs.Results.{Yields, bound, found, tested}
use Rattle.ddc_base.proofs.Results.{chosen as either}
use Rattle.paged_mem.specs.Memory.{Memory, bytes_at}
use Rattle.mem_files.specs.World.{World}
use Rattle.mem_files.specs.declared.open_file.Access.{Access}
use Rattle.mem_files.specs.declared.open_file.OpenFile.{OpenFile}
use Rattle.mem_files.specs.declared.open_file.OpenFile.TheVariants.{Input, Stream1, Stream2, File}
use Rattle.ddc_base.specs.Limits.{most_descriptors, most_names}
use Rattle.mem_files.specs.Linux.{ebadf, einval, o_accmode, o_creat, o_excl}
use Rattle.mem_files.specs.Calls.{removed, removed_at, opened, opened_at, closed, closed_at, sought, sought_at, with_file_offset, write_offset, written, written_if, fits, has}
use Rattle.linux_calls.specs.Linux.{efault, sys_unlinkat, sys_faccessat, sys_fchmodat, sys_openat, sys_close, sys_lseek, sys_read, sys_write, sys_exit, sys_exit_group, sys_brk}
use Rattle.linux_calls.specs.Paths.{low, name_in_directory, name_at, in_directory}
use Rattle.linux_calls.specs.Calls.{CallState, CallOutcome, is_unknown, or_same_state, answering, back, moved_break, opened_as, or_same_files, read_at, syscall, unlinked, written_at}
use Rattle.linux_calls.specs.Rules.{LeavesOnError}

-- a pair whose error leaves the files
abbrev Leaves : {A : Type 0} → World → Result A ℕ × World → Type 0
Leaves w r = IsErr r.0 → r.1 ≡ w

leaves-if : {A : Type 0} (w : World) (b : Bool) (x y : Result A ℕ × World) → Leaves w x → Leaves w y → Leaves w (cond b x y)
leaves-if w true x y p q = p
leaves-if w false x y p q = q

leaves-answering : {A : Type 0} (w : World) (value : ℕ) (r : Result A ℕ) (files : World) → Leaves w (r, files) → Leaves w (answering value (r, files))
leaves-answering w value (Ok done) files p = λ e. cc
leaves-answering w value (Err errno) files p = p

leaves-removed : (w : World) (name : List ℕ) → Leaves w (removed w name)
leaves-removed w name = at (map.get w.names name)
  where
    at : (o : Option ℕ) → Leaves w (removed_at w name o)
    at None = λ e. refl
    at (Some number) = λ e. cc

leaves-closed : (w : World) (fd : ℕ) → Leaves w (closed w fd)
leaves-closed w fd = at (map.get w.open_files fd)
  where
    at : (o : Option OpenFile) → Leaves w (closed_at w fd o)
    at None = λ e. refl
    at (Some open_file) = λ e. cc

leaves-sought : (w : World) (fd : ℕ) (offset : ℤ) (whence : ℕ) → Leaves w (sought w fd offset whence)
leaves-sought w fd offset whence = at (map.get w.open_files fd)
  where
    to : (number : ℕ) (access : Access) (o : Option ℕ) → Leaves w (with_file_offset w fd number access o)
    to number access None = λ e. refl
    to number access (Some file_offset) = λ e. cc

    at : (o : Option OpenFile) → Leaves w (sought_at w fd offset whence o)
    at None = λ e. refl
    at (Some Input) = λ e. refl
    at (Some Stream1) = λ e. refl
    at (Some Stream2) = λ e. refl
    at (Some (File number file_offset access)) = to number access _

leaves-opened : (w : World) (name : List ℕ) (flags : ℕ) → Leaves w (opened w name flags)
leaves-opened w name flags =
    leaves-if w (bit_and flags o_accmode == o_accmode) _ _ (λ e. refl) (leaves-if w (nat_le most_descriptors (map.len w.open_files)) _ _ (λ e. refl) (at (map.get w.names name)))
  where
    at : (o : Option ℕ) → Leaves w (opened_at w name flags o)
    at (Some number) = leaves-if w (has flags o_creat && has flags o_excl) _ _ (λ e. refl) (λ e. cc)
    at None = leaves-if w (not (has flags o_creat)) _ _ (λ e. refl) (leaves-if w (nat_le most_names (map.len w.names)) _ _ (λ e. refl) (λ e. cc))

leaves-written : (w : World) (fd : ℕ) (bytes : List ℕ) → Leaves w (written w fd bytes)
leaves-written w fd bytes = at (fits w fd (length bytes))
  where
    at : (r : Result (Unit {0}) ℕ) → Leaves w (written_if w fd bytes r)
    at (Ok done) = λ e. cc
    at (Err errno) = λ e. refl

leaves-left : (w : World) (reading : Result (Result ℕ ℕ × World) ℕ) → Yields (Leaves w) reading → Leaves w (or_same_files w reading)
leaves-left w (Ok meant) holds = holds.is
leaves-left w (Err errno) holds = λ e. refl

leaves-unlinked : (m : Memory) (w : World) (directory path flags : ℕ) → Leaves w (unlinked m w directory path flags)
leaves-unlinked m w directory path flags =
    leaves-left w _ (bound (name_in_directory m w directory path) _ (λ name is.
    tested einval (low flags == 0) _ (λ allowed. record { is = leaves-answering w 0 (removed w name).0 (removed w name).1 (leaves-removed w name) })))

leaves-opened_as : (m : Memory) (w : World) (directory path flags : ℕ) → Leaves w (opened_as m w directory path flags)
leaves-opened_as m w directory path flags =
    leaves-left w _ (bound (name_at m path) _ (λ name is.
    tested einval (not (bit_and (low flags) o_accmode == o_accmode)) _ (λ allowed.
    bound (in_directory w directory name) _ (λ here same. record { is = leaves-opened w here (low flags) }))))

leaves-written_at : (m : Memory) (w : World) (fd buffer count : ℕ) → Leaves w (written_at m w fd buffer count)
leaves-written_at m w fd buffer count =
    leaves-left w _ (found ebadf (write_offset w (map.get w.open_files fd)) _ (λ offset there.
    either (count == 0) _ _ (λ none. record { is = λ e. refl })
    (found efault (bytes_at m buffer count) _ (λ bytes are.
    record { is = leaves-answering w (length bytes) (written w fd bytes).0 (written w fd bytes).1 (leaves-written w fd bytes) }))))

-- outcomes, as a record: what it speaks of is found from the goal
record Left (s : CallState) (outcome : CallOutcome) : Type 0 where
  is : LeavesOnError s outcome

chosen : (s : CallState) (b : Bool) (x y : CallOutcome) → Left s x → Left s y → Left s (cond b x y)
chosen s true x y p q = p
chosen s false x y p q = q

left-back : (s : CallState) (meant : Result ℕ ℕ × World) → Leaves s.files meant → Left s (back s meant)
left-back s meant p = record { is = λ e. ap (λ files. record s { files = files }) (p e) }

left-or_same_state : (s : CallState) (reading : Result (ℕ × CallState) ℕ) → Left s (or_same_state s reading)
left-or_same_state s (Ok done) = record { is = λ e. cc }
left-or_same_state s (Err errno) = record { is = λ e. refl }

every : (number : ℕ) (a : List ℕ) (s : CallState) → Left s (syscall number a s)
every number a s =
    let w = s.files in
    let arg : ℕ → ℕ = slice_index a in
    chosen s (number == sys_unlinkat) _ _ (left-back s _ (leaves-unlinked s.memory w (arg 0) (arg 1) (arg 2)))
    (chosen s (number == sys_faccessat) _ _ (left-back s _ (λ e. refl))
    (chosen s (number == sys_fchmodat) _ _ (left-back s _ (λ e. refl))
    (chosen s (number == sys_openat) _ _ (left-back s _ (leaves-opened_as s.memory w (arg 0) (arg 1) (arg 2)))
    (chosen s (number == sys_close) _ _ (left-back s _ (leaves-answering w 0 (closed w (low (arg 0))).0 (closed w (low (arg 0))).1 (leaves-closed w (low (arg 0)))))
    (chosen s (number == sys_lseek) _ _ (left-back s _ (leaves-sought w (low (arg 0)) (cast_signed w64 (arg 1)) (low (arg 2))))
    (chosen s (number == sys_read) _ _ (left-or_same_state s (read_at s (low (arg 0)) (arg 1) (arg 2)))
    (chosen s (number == sys_write) _ _ (left-back s _ (leaves-written_at s.memory w (low (arg 0)) (arg 1) (arg 2)))
    (chosen s (number == sys_exit) _ _ (record { is = tt })
    (chosen s (number == sys_exit_group) _ _ (record { is = tt })
    (chosen s (number == sys_brk) (moved_break s (arg 0)) (is_unknown number) (record { is = λ e. cc }) (record { is = tt })))))))))))

pub leaves-syscall : (number : ℕ) (a : List ℕ) (s : CallState) → LeavesOnError s (syscall number a s)
leaves-syscall number a s = (every number a s).is
