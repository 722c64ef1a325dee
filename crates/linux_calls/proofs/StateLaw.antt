-- Each call leaves a state in order.
use Rattle.std.proofs.Common.{◌≡◌, ℕ, ◌+◌, ◌-◌, ◌<◌, ◌≤◌, ◌==◌, Bool, true, false, cond, Option, None, Some, Result, Ok, Err, List, [], length, take, drop, refl, subst, arith}
use Rattle.std.specs.Prelude.{⊤, nat_lt, slice_index}
use Rattle.std.specs.FinMap.{get}
use Rattle.std.proofs.lemmas.List.Elements.{All-drop, All-nil, All-replicate, All-take}
use borrow.Author.Tests.{ltb-true}
use Rattle.ddc_base.specs.Results.{◌>>=◌}
use Rattle.ddc_base.proofs.Results.{Yields, bound, tested}
use Rattle.ddc_base.proofs.Results.{chosen as either}
use Rattle.paged_mem.specs.Memory.{Memory, IsWhole, maps, with_bytes, without, zeros, page_up}
use Rattle.paged_mem.proofs.Mapped.{length-zeros}
use Rattle.mem_files.specs.declared.open_file.OpenFile.{OpenFile}
use Rattle.mem_files.specs.declared.open_file.OpenFile.TheVariants.{Input, Stream1, Stream2, File}
use Rattle.mem_files.specs.Access.{is_read}
use Rattle.mem_files.specs.Linux.{ebadf}
use Rattle.mem_files.specs.World.{World, content_of}
use Rattle.mem_files.specs.Calls.{ready, ready_at}
use Rattle.mem_files.specs.Sound.{AreBytes, IsSound}
use Rattle.mem_files.proofs.Rules.{bytes_of, content_bytes}
use Rattle.linux_calls.specs.declared.Heap.{Heap}
use Rattle.linux_calls.specs.Linux.{efault, sys_unlinkat, sys_faccessat, sys_fchmodat, sys_openat, sys_close, sys_lseek, sys_read, sys_write, sys_exit, sys_exit_group, sys_brk}
use Rattle.linux_calls.specs.Paths.{low}
use Rattle.linux_calls.specs.HeapOf.{IsHeapOf, is_outside, resized}
use Rattle.linux_calls.specs.Calls.{CallState, CallOutcome, goes, exits, is_unknown, or_same_state, back, moved_break, read_at, syscall}
use Rattle.linux_calls.specs.Rules.{IsState, LeavesSound, LeavesState}
use Rattle.paged_mem.proofs.Wholes.{whole-mapped, whole-without, whole-written}
use Rattle.linux_calls.proofs.SoundLaw.{syscall-sound}
use Rattle.linux_calls.proofs.Keeping.{OutcomeKeeps, call_keeps, inside}

-- bytes that are ready are bytes
ready-bytes : (w : World) (fd count : ℕ) (bytes : List ℕ) → IsSound w → ready w fd count ≡ Ok bytes → AreBytes bytes
ready-bytes w fd count bytes sound e = at_open_file (get w.open_files fd) e
  where
    readable : (b : Bool) (number file_offset : ℕ) → cond {A = Result (List ℕ) ℕ} b (Ok (take count (drop file_offset (content_of w number)))) (Err ebadf) ≡ Ok bytes → AreBytes bytes
    readable true number file_offset e =
        let is : take count (drop file_offset (content_of w number)) ≡ bytes = cc in
        subst AreBytes is (All-take (λ b. b < 256) count (drop file_offset (content_of w number)) (All-drop (λ b. b < 256) file_offset (content_of w number) (content_bytes w number (bytes_of w sound))))
    readable false number file_offset e = cc

    at_open_file : (o : Option OpenFile) → ready_at w count o ≡ Ok bytes → AreBytes bytes
    at_open_file None e = cc
    at_open_file (Some Input) e = let none : [] ≡ bytes = cc in subst AreBytes none (All-nil (λ b. b < 256))
    at_open_file (Some Stream1) e = cc
    at_open_file (Some Stream2) e = cc
    at_open_file (Some (File number file_offset access)) e = readable (is_read access) number file_offset e

-- the memory after an outcome, as a record: what it speaks of is found from the goal
abbrev LeavesWhole : CallOutcome → Type 0
LeavesWhole (goes answer next) = IsWhole next.memory
LeavesWhole (exits status) = ⊤
LeavesWhole (is_unknown n) = ⊤

record Whole (outcome : CallOutcome) : Type 0 where
  is : LeavesWhole outcome

chosen : (b : Bool) (x y : CallOutcome) → (b ≡ true → Whole x) → Whole y → Whole (cond b x y)
chosen true x y p q = p refl
chosen false x y p q = q

back-whole : (s : CallState) (meant : Result ℕ ℕ × World) → IsWhole s.memory → Whole (back s meant)
back-whole s meant whole = record { is = whole }

same-state-whole : (s : CallState) (reading : Result (ℕ × CallState) ℕ) → IsWhole s.memory → Yields (λ done. IsWhole done.1.memory) reading → Whole (or_same_state s reading)
same-state-whole s (Ok done) whole kept = record { is = kept.is }
same-state-whole s (Err errno) whole kept = record { is = whole }

read-whole : (s : CallState) (fd buffer count : ℕ) → IsWhole s.memory → IsSound s.files → Whole (or_same_state s (read_at s fd buffer count))
read-whole s fd buffer count whole sound =
    same-state-whole s _ whole
    (bound (ready s.files fd count) _ (λ bytes is.
    either (length bytes == 0) _ _ (λ none. record { is = whole })
    (tested efault (maps s.memory buffer (length bytes)) _
    (λ there. record { is = whole-written s.memory buffer bytes whole there (ready-bytes s.files fd count bytes sound is) }))))

zero-bytes : (count : ℕ) → AreBytes (zeros count)
unfolding zeros
zero-bytes count = All-replicate (λ b. b < 256) count 0 (omega arith)

resized-whole : (m : Memory) (heap : Heap) (to : ℕ) → IsWhole m → IsHeapOf m heap → to ≤ heap.first + heap.limit → IsWhole (resized m (page_up heap.now) (page_up to))
resized-whole m heap to whole is high = by_test (nat_lt (page_up heap.now) (page_up to)) refl
  where
    by_test : (t : Bool) → nat_lt (page_up heap.now) (page_up to) ≡ t
        → IsWhole (cond t (with_bytes m (page_up heap.now) (zeros (page_up to - page_up heap.now))) (without m (page_up to) (page_up heap.now - page_up to)))
    by_test true was =
        let grows = ltb-true (page_up heap.now) (page_up to) was in
        let size = length-zeros (page_up to - page_up heap.now) in
        let low = is.low in
        whole-mapped m (page_up heap.now) (zeros (page_up to - page_up heap.now)) whole (omega arith) (omega arith) (omega arith) (zero-bytes (page_up to - page_up heap.now))
    by_test false was = whole-without m (page_up to) (page_up heap.now - page_up to) whole (omega arith) (omega arith)

break-whole : (s : CallState) (to : ℕ) → IsWhole s.memory → IsHeapOf s.memory s.heap → Whole (moved_break s to)
break-whole s to whole is = record { is = by_test (is_outside s.heap to) refl }
  where
    by_test : (t : Bool) → is_outside s.heap to ≡ t → IsWhole (cond t s.memory (resized s.memory (page_up s.heap.now) (page_up to)))
    by_test true was = whole
    by_test false was = resized-whole s.memory s.heap to whole is (inside s.heap to was).1

every : (number : ℕ) (a : List ℕ) (s : CallState) → IsState s → Whole (syscall number a s)
every number a s is =
    let arg : ℕ → ℕ = slice_index a in
    let whole = is.memory in
    chosen (number == sys_unlinkat) _ _ (λ e. back-whole s _ whole)
    (chosen (number == sys_faccessat) _ _ (λ e. back-whole s _ whole)
    (chosen (number == sys_fchmodat) _ _ (λ e. back-whole s _ whole)
    (chosen (number == sys_openat) _ _ (λ e. back-whole s _ whole)
    (chosen (number == sys_close) _ _ (λ e. back-whole s _ whole)
    (chosen (number == sys_lseek) _ _ (λ e. back-whole s _ whole)
    (chosen (number == sys_read) _ _ (λ e. read-whole s (low (arg 0)) (arg 1) (arg 2) whole is.files)
    (chosen (number == sys_write) _ _ (λ e. back-whole s _ whole)
    (chosen (number == sys_exit) _ _ (λ e. record { is = tt })
    (chosen (number == sys_exit_group) _ _ (λ e. record { is = tt })
    (chosen (number == sys_brk) (moved_break s (arg 0)) (is_unknown number) (λ e. break-whole s (arg 0) whole is.heap) (record { is = tt })))))))))))

all_three : (s : CallState) (outcome : CallOutcome) → LeavesSound outcome → LeavesWhole outcome → OutcomeKeeps s outcome → LeavesState outcome
all_three s (goes answer next) sound whole keeps = record { memory = whole; files = sound; heap = keeps.heap_of }
all_three s (exits status) sound whole keeps = tt
all_three s (is_unknown n) sound whole keeps = tt

pub syscall-state : (number : ℕ) (a : List ℕ) (s : CallState) → IsState s → LeavesState (syscall number a s)
syscall-state number a s is =
    all_three s (syscall number a s) (syscall-sound number a s is.memory is.files) (every number a s is).is (call_keeps number a s is.heap)
