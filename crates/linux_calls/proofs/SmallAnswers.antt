-- What a guest gets from a call is a number of 64 bits.
use Rattle.std.proofs.Common.{◌≡◌, ℕ, zero, suc, ◌+◌, ◌^◌, ◌<◌, ◌==◌, ◌&&◌, Bool, true, false, cond, not, Option, None, Some, Result, Ok, Err, List, [], length, take, drop, ℤ, pos, negsuc, ◌+ℤ◌, option_and_then, refl, ap, arith}
use Rattle.std.specs.Prelude.{bit_and, nat_le, nat_lt, slice_index}
use Rattle.std.specs.Int.{cast_signed, w64}
use Rattle.std.specs.FinMap.{contains_key, get, len}
use Rattle.std.proofs.lemmas.Bool.Decides.{nat_tests}
use Rattle.std.proofs.lemmas.List.{length-take, length-drop}
use Rattle.ddc_base.specs.Results.{◌>>=◌}
use Rattle.ddc_base.proofs.Results.{Yields, bound, found, tested}
use Rattle.ddc_base.proofs.Results.{chosen as either}
use Rattle.paged_mem.specs.Memory.{Memory, IsWhole, bytes_at, maps}
use Rattle.paged_mem.proofs.Maps.{get_in_bytes_at, length_of_bytes_at}
use Rattle.mem_files.specs.declared.open_file.Access.{Access}
use Rattle.mem_files.specs.declared.open_file.OpenFile.{OpenFile}
use Rattle.mem_files.specs.declared.open_file.OpenFile.TheVariants.{Input, Stream1, Stream2, File}
use Rattle.mem_files.specs.Access.{is_read}
use Rattle.ddc_base.specs.Limits.{most_descriptors, most_names}
use Rattle.mem_files.specs.Linux.{ebadf, eexist, einval, emfile, enoent, enospc, o_accmode, o_creat, o_excl, o_trunc}
use Rattle.mem_files.specs.World.{World, content_of, lowest_unused}
use Rattle.mem_files.specs.Calls.{as_file_offset, closed, emptied_if, has, opened, opened_at, ready, ready_at, removed, seek_base, sought, sought_at, with_file_offset, with_descriptor, with_file, write_offset, written}
use Rattle.mem_files.specs.Sound.{IsSound}
use Rattle.mem_files.proofs.KeepingCalls.{content_small}
use Rattle.mem_files.proofs.Maps.{lowest_unused-le-len}
use Rattle.mem_files.proofs.Rules.{kept_of}
use Rattle.linux_calls.specs.Linux.{efault, sys_unlinkat, sys_faccessat, sys_fchmodat, sys_openat, sys_close, sys_lseek, sys_read, sys_write, sys_exit, sys_exit_group, sys_brk}
use Rattle.linux_calls.specs.Paths.{in_directory, low, name_at, name_in_directory}
use Rattle.linux_calls.specs.HeapOf.{IsHeapOf, is_outside}
use Rattle.linux_calls.specs.Calls.{CallState, CallOutcome, is_unknown, accessed, answer_of, or_same_state, answering, back, mode_changed, moved_break, opened_as, or_same_files, read_at, syscall, unlinked, written_at}
use Rattle.linux_calls.specs.Rules.{IsState, LeavesNumber}
use Rattle.linux_calls.proofs.Keeping.{inside}

-- as a record: what it speaks of is found from the goal
record Small (outcome : CallOutcome) : Type 0 where
  is : LeavesNumber outcome

record Value (r : Result ℕ ℕ) : Type 0 where
  is : answer_of r < 2 ^ 64

chosen : (b : Bool) (x y : CallOutcome) → Small x → Small y → Small (cond b x y)
chosen true x y p q = p
chosen false x y p q = q

either_pair : (b : Bool) (x y : Result ℕ ℕ × World) → Value x.0 → Value y.0 → Value (cond b x y).0
either_pair true x y p q = p
either_pair false x y p q = q

an_error : (errno : ℕ) → Value (Err errno)
an_error errno = record { is = omega arith }

a_value : (value : ℕ) → value < 2 ^ 64 → Value (Ok value)
a_value value small = record { is = small }

back-small : (s : CallState) (meant : Result ℕ ℕ × World) → Value meant.0 → Small (back s meant)
back-small s meant v = record { is = v.is }

answering-small : {A : Type 0} (value : ℕ) (r : Result A ℕ) (files : World) → value < 2 ^ 64 → Value (answering value (r, files)).0
answering-small value (Ok done) files small = a_value value small
answering-small value (Err errno) files small = an_error errno

left-small : (w : World) (reading : Result (Result ℕ ℕ × World) ℕ) → Yields (λ meant. Value meant.0) reading → Value (or_same_files w reading).0
left-small w (Ok meant) small = small.is
left-small w (Err errno) small = an_error errno

read-value : (reading : Result ℕ ℕ) → Yields (λ value. value < 2 ^ 64) reading → Value reading
read-value (Ok value) small = a_value value small.is
read-value (Err errno) small = an_error errno

zero-small : Yields {E = ℕ} (λ value. value < 2 ^ 64) (Ok 0)
zero-small = record { is = omega arith }

unlinked-small : (m : Memory) (w : World) (directory path flags : ℕ) → Value (unlinked m w directory path flags).0
unlinked-small m w directory path flags =
    left-small w _ (bound (name_in_directory m w directory path) _ (λ name is.
    tested einval (low flags == 0) _ (λ allowed. record { is = answering-small 0 (removed w name).0 (removed w name).1 (omega arith) })))

accessed-small : (m : Memory) (w : World) (directory path mode : ℕ) → Value (accessed m w directory path mode)
accessed-small m w directory path mode =
    read-value _ (bound (name_in_directory m w directory path) _ (λ name is.
    tested einval (nat_le (low mode) 7) _ (λ allowed. tested enoent (contains_key w.names name) _ (λ there. zero-small))))

mode-small : (m : Memory) (w : World) (directory path : ℕ) → Value (mode_changed m w directory path)
mode-small m w directory path =
    read-value _ (bound (name_in_directory m w directory path) _ (λ name is. tested enoent (contains_key w.names name) _ (λ there. zero-small)))

descriptor-small : (w v : World) (number flags : ℕ) → IsSound w → len v.open_files ≡ len w.open_files → Value (with_descriptor v number flags).0
descriptor-small w v number flags sound same = a_value (lowest_unused v.open_files) (omega (arith, lowest_unused-le-len v.open_files, sound.within.few_open_files))

opened-small : (w : World) (name : List ℕ) (flags : ℕ) → IsSound w → Value (opened w name flags).0
opened-small w name flags sound =
    either_pair (bit_and flags o_accmode == o_accmode) _ _ (an_error einval)
    (either_pair (nat_le most_descriptors (len w.open_files)) _ _ (an_error emfile) (at_name (get w.names name)))
  where
    emptied : (b : Bool) (number : ℕ) → len (emptied_if b w number).open_files ≡ len w.open_files
    emptied true number = refl
    emptied false number = refl

    at_name : (o : Option ℕ) → Value (opened_at w name flags o).0
    at_name (Some number) =
        either_pair (has flags o_creat && has flags o_excl) _ _ (an_error eexist)
        (descriptor-small w (emptied_if (has flags o_trunc) w number) number flags sound (emptied (has flags o_trunc) number))
    at_name None =
        either_pair (not (has flags o_creat)) _ _ (an_error enoent)
        (either_pair (nat_le most_names (len w.names)) _ _ (an_error enospc) (descriptor-small w (with_file w name []) (lowest_unused w.files) flags sound refl))

opened-as-small : (m : Memory) (w : World) (directory path flags : ℕ) → IsSound w → Value (opened_as m w directory path flags).0
opened-as-small m w directory path flags sound =
    left-small w _ (bound (name_at m path) _ (λ name is.
    tested einval (not (bit_and (low flags) o_accmode == o_accmode)) _ (λ allowed.
    bound (in_directory w directory name) _ (λ here same. record { is = opened-small w here (low flags) sound }))))

sought-small : (w : World) (fd : ℕ) (offset : ℤ) (whence : ℕ) → Value (sought w fd offset whence).0
sought-small w fd offset whence = at_open_file (get w.open_files fd)
  where
    at_file_offset : (number : ℕ) (access : Access) (o : Option ℕ) → ((to : ℕ) → o ≡ Some to → to < 2 ^ 64) → Value (with_file_offset w fd number access o).0
    at_file_offset number access None h = an_error einval
    at_file_offset number access (Some to) h = a_value to (h to refl)

    file_offset : (z : ℤ) (to : ℕ) → as_file_offset z ≡ Some to → to < 2 ^ 64
    file_offset (negsuc n) to e = cc
    file_offset (pos n) to e = by_test (nat_lt n (2 ^ 63)) refl e
      where
        by_test : (t : Bool) → nat_lt n (2 ^ 63) ≡ t → cond t (Some n) None ≡ Some to → to < 2 ^ 64
        by_test true was e = let same : n ≡ to = cc in let less : n < 2 ^ 63 = (grind (arith, nat_tests)) in omega arith
        by_test false was e = cc

    from_base : (o : Option ℕ) (to : ℕ) → option_and_then (λ base. as_file_offset (pos base +ℤ offset)) o ≡ Some to → to < 2 ^ 64
    from_base None to e = cc
    from_base (Some base) to e = file_offset (pos base +ℤ offset) to e

    at_open_file : (o : Option OpenFile) → Value (sought_at w fd offset whence o).0
    at_open_file None = an_error _
    at_open_file (Some Input) = an_error _
    at_open_file (Some Stream1) = an_error _
    at_open_file (Some Stream2) = an_error _
    at_open_file (Some (File number now access)) = at_file_offset number access _ (from_base (seek_base whence now (length (content_of w number))))

ready-small : (w : World) (fd count : ℕ) (bytes : List ℕ) → IsSound w → ready w fd count ≡ Ok bytes → length bytes < 2 ^ 64
ready-small w fd count bytes sound e = at_open_file (get w.open_files fd) e
  where
    readable : (b : Bool) (number file_offset : ℕ) → cond {A = Result (List ℕ) ℕ} b (Ok (take count (drop file_offset (content_of w number)))) (Err ebadf) ≡ Ok bytes → length bytes < 2 ^ 64
    readable true number file_offset e =
        let is : take count (drop file_offset (content_of w number)) ≡ bytes = cc in
        let small = content_small w number (kept_of w sound) in
        omega (arith, small, ap length is, length-take count (drop file_offset (content_of w number)), length-drop file_offset (content_of w number))
    readable false number file_offset e = cc

    at_open_file : (o : Option OpenFile) → ready_at w count o ≡ Ok bytes → length bytes < 2 ^ 64
    at_open_file None e = cc
    at_open_file (Some Input) e = let none : [] ≡ bytes = cc in omega (arith, ap length none)
    at_open_file (Some Stream1) e = cc
    at_open_file (Some Stream2) e = cc
    at_open_file (Some (File number file_offset access)) e = readable (is_read access) number file_offset e

same-state-small : (s : CallState) (reading : Result (ℕ × CallState) ℕ) → Yields (λ done. done.0 < 2 ^ 64) reading → Small (or_same_state s reading)
same-state-small s (Ok done) small = record { is = small.is }
same-state-small s (Err errno) small = record { is = (an_error errno).is }

read-small : (s : CallState) (fd buffer count : ℕ) → IsSound s.files → Small (or_same_state s (read_at s fd buffer count))
read-small s fd buffer count sound =
    same-state-small s _ (bound (ready s.files fd count) _ (λ bytes is.
    either (length bytes == 0) _ _ (λ none. record { is = omega arith })
    (tested efault (maps s.memory buffer (length bytes)) _ (λ there. record { is = ready-small s.files fd count bytes sound is }))))

-- bytes of a memory are few
mapped-small : (m : Memory) (at count : ℕ) (bytes : List ℕ) → IsWhole m → bytes_at m at count ≡ Some bytes → length bytes < 2 ^ 64
mapped-small m at zero bytes whole e = omega (arith, length_of_bytes_at m at zero bytes e)
mapped-small m at (suc count) bytes whole e =
    omega (arith, length_of_bytes_at m at (suc count) bytes e, whole.low (at + count) _ (get_in_bytes_at m at (suc count) bytes e (at + count) (omega arith) (omega arith)))

written-small : (m : Memory) (w : World) (fd buffer count : ℕ) → IsWhole m → Value (written_at m w fd buffer count).0
written-small m w fd buffer count whole =
    left-small w _ (found ebadf (write_offset w (get w.open_files fd)) _ (λ offset there.
    either (count == 0) _ _ (λ none. record { is = a_value 0 (omega arith) })
    (found efault (bytes_at m buffer count) _ (λ bytes are.
    record { is = answering-small (length bytes) (written w fd bytes).0 (written w fd bytes).1 (mapped-small m buffer count bytes whole are) }))))

break-small : (s : CallState) (to : ℕ) → IsHeapOf s.memory s.heap → Small (moved_break s to)
break-small s to is = record { is = by_test (is_outside s.heap to) refl }
  where
    by_test : (t : Bool) → is_outside s.heap to ≡ t → (cond t s.heap (record s.heap { now = to })).now < 2 ^ 64
    by_test true was = let a = is.to in let b = is.low in omega arith
    by_test false was = let a = (inside s.heap to was).1 in let b = is.low in omega arith

every : (number : ℕ) (a : List ℕ) (s : CallState) → IsState s → Small (syscall number a s)
every number a s is =
    let arg : ℕ → ℕ = slice_index a in
    chosen (number == sys_unlinkat) _ _ (back-small s _ (unlinked-small s.memory s.files (arg 0) (arg 1) (arg 2)))
    (chosen (number == sys_faccessat) _ _ (back-small s _ (accessed-small s.memory s.files (arg 0) (arg 1) (arg 2)))
    (chosen (number == sys_fchmodat) _ _ (back-small s _ (mode-small s.memory s.files (arg 0) (arg 1)))
    (chosen (number == sys_openat) _ _ (back-small s _ (opened-as-small s.memory s.files (arg 0) (arg 1) (arg 2) is.files))
    (chosen (number == sys_close) _ _ (back-small s _ (answering-small 0 (closed s.files (low (arg 0))).0 (closed s.files (low (arg 0))).1 (omega arith)))
    (chosen (number == sys_lseek) _ _ (back-small s _ (sought-small s.files (low (arg 0)) (cast_signed w64 (arg 1)) (low (arg 2))))
    (chosen (number == sys_read) _ _ (read-small s (low (arg 0)) (arg 1) (arg 2) is.files)
    (chosen (number == sys_write) _ _ (back-small s _ (written-small s.memory s.files (low (arg 0)) (arg 1) (arg 2) is.memory))
    (chosen (number == sys_exit) _ _ (record { is = omega arith })
    (chosen (number == sys_exit_group) _ _ (record { is = omega arith })
    (chosen (number == sys_brk) (moved_break s (arg 0)) (is_unknown number) (break-small s (arg 0) is.heap) (record { is = tt })))))))))))

pub syscall-small : (number : ℕ) (a : List ℕ) (s : CallState) → IsState s → LeavesNumber (syscall number a s)
syscall-small number a s is = (every number a s is).is
