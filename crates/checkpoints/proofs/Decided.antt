-- What makes a text's parts a state is decided by tests.
use Rattle.std.proofs.Common.{◌≡◌, ℕ, ◌+◌, ◌-◌, ◌*◌, ◌%◌, ◌^◌, Bool, true, false, not, Option, None, Some, List, [], ◌∷◌, length, map, sum_by, refl, subst, arith}
use Rattle.std.specs.Prelude.{◌==◌}
use Rattle.std.specs.Bool.{Decides}
use Rattle.std.specs.FinMap.{get}
use Rattle.std.specs.List.{IsDistinct}
use Rattle.std.specs.Ordering.{eq_by_cmp}
use Rattle.std.proofs.lemmas.Bool.Decides.{Decides-below_and, Decides-eqb, Decides-like, Decides-ltb, Decides-or}
use Rattle.std.proofs.lemmas.List.Elements.{All-from_recursion, recursion_from_All}
use Rattle.paged_mem.specs.Memory.{Memory, IsFree, maps, page_up}
use Rattle.mem_files.specs.declared.open_file.OpenFile.{OpenFile}
use Rattle.mem_files.specs.declared.open_file.OpenFile.TheVariants.{Input, Stream1, Stream2, File}
use Rattle.ddc_base.specs.Limits.{address_end, file_number_end, most_content, most_descriptors, most_heap, most_names, most_pages, most_pages_apart, most_total, page_number_end, stack_size}
use Rattle.mem_files.specs.Lists.{AreInRange, FileLists, is_listed, is_used, named}
use Rattle.mem_files.specs.Names.{bytes_cmp, is_stripped_name}
use Rattle.mem_files.specs.Outputs.{IsContent}
use Rattle.mem_files.specs.Sound.{AreBytes, IsOpenFileAt}
use Rattle.linux_calls.specs.declared.Heap.{Heap}
use Rattle.linux_calls.specs.HeapOf.{IsHeapOf}
use Rattle.rv64_machine.specs.Hart.{IsReservation}
use Rattle.guest_run.specs.Stack.{stack_end}
use Rattle.guest_run.specs.Valid.{Fits, pages_apart}
use Rattle.save_format.specs.declared.state_text.parts.Run.{Run}
use Rattle.save_format.specs.StateText.Mappable.{AreMappable}
use Rattle.save_format.specs.StateText.StateText.{StateText}
use Rattle.checkpoints.specs.Checkpoint.{IsInMemory, IsInRange, IsJoined, lists_in, mapped_of, memory_of}
use Rattle.checkpoints.specs.FileParts.Inside.Judged.{is_open_file_at}
use Rattle.checkpoints.specs.Inside.Tests as test
use Rattle.checkpoints.proofs.Decisions.{are_all, both, has_none, is_at_most, is_test}

-- files

pub are_bytes : (bytes : List ℕ) → Decides (test.are_bytes bytes) (AreBytes bytes)
are_bytes bytes = are_all (λ byte. Decides-ltb byte 256) bytes

pub is_content : (content : List ℕ) → Decides (test.is_content content) (IsContent content)
is_content content = Decides-like _ (λ h. assumption) (λ h. assumption) (both (are_bytes content) (is_at_most (length content) most_content))

open_file_at : (fd : ℕ) (open_file : OpenFile) → Decides (is_open_file_at fd open_file) (IsOpenFileAt fd open_file)
open_file_at fd Input = Decides-eqb fd 0
open_file_at fd Stream1 = Decides-eqb fd 1
open_file_at fd Stream2 = Decides-eqb fd 2
open_file_at fd (File number file_offset access) = Decides-ltb file_offset (2 ^ 63)

is_false : (b : Bool) → Decides (not b) (b ≡ false)
is_false true = (λ t. cc, λ e. cc)
is_false false = (λ t. refl, λ e. refl)

are_distinct : {A : Type 0} (same : A → A → Bool) (xs : List A) → Decides (test.are_distinct same xs) (IsDistinct same xs)
unfolding IsDistinct
are_distinct same [] = (λ t. tt, λ h. refl)
are_distinct same (x ∷ xs) =
    both (Decides-like _ (recursion_from_All (λ y. same x y ≡ false) xs) (All-from_recursion (λ y. same x y ≡ false) xs) (are_all (λ y. is_false (same x y)) xs))
    (are_distinct same xs)

are_in_range : (lists : FileLists) → Decides (test.are_files_in_range lists) (AreInRange lists)
unfolding test.are_files_in_range
are_in_range lists =
    Decides-like _ (λ h. assumption) (λ h. assumption)
    (both (is_at_most (length (named lists.files)) most_names)
    (both (are_all (λ e. both (is_test (is_stripped_name e.0)) (are_bytes e.0)) (named lists.files))
    (both (are_distinct (eq_by_cmp bytes_cmp) (map (λ e. e.0) (named lists.files)))
    (both (are_all (λ file. Decides-ltb file.number file_number_end) lists.files)
    (both (are_all (λ file. is_content file.content) lists.files)
    (both (are_all is_content lists.streams)
    (both (is_at_most (sum_by length lists.streams + sum_by (λ file. length file.content) lists.files) most_total)
    (both (are_all (λ e. Decides-ltb e.0 most_descriptors) lists.open_files) (are_all (λ e. open_file_at e.0 e.1) lists.open_files)))))))))

-- memory

is_free : (m : Memory) (at count : ℕ) → Decides (test.is_free m at count) (IsFree m at count)
is_free m at count =
    Decides-like _ (λ h address from to. subst (λ q. get m q ≡ None) (omega arith) (h (address - at) (omega arith))) (λ h k less. h (at + k) (omega arith) (omega arith))
    (Decides-below_and _ (λ k. get m (at + k) ≡ None) (test.is_free m at) (λ k. has_none (get m (at + k))) refl (λ n. refl) count)

is_heap_of : (m : Memory) (heap : Heap) → Decides (test.is_heap_of m heap) (IsHeapOf m heap)
unfolding test.is_heap_of
is_heap_of m heap =
    Decides-like _ (λ h. assumption) (λ h. assumption)
    (both (Decides-eqb (heap.first % 4096) 0)
    (both (is_at_most heap.limit most_heap)
    (both (is_at_most heap.first heap.now)
    (both (is_at_most heap.now (heap.first + heap.limit))
    (both (is_at_most (heap.first + heap.limit) (address_end - stack_size))
    (both (is_test (maps m heap.first (page_up heap.now - heap.first))) (is_free m (page_up heap.now) (page_up (heap.first + heap.limit) - page_up heap.now))))))))

fits : (m : Memory) (heap : Heap) → Decides (test.is_fit m heap) (Fits m heap)
unfolding test.is_fit
fits m heap =
    Decides-like _ (λ h. assumption) (λ h. assumption)
    (both (is_heap_of m heap) (both (is_test (maps m (stack_end - stack_size) stack_size)) (is_at_most (pages_apart m heap) most_pages_apart)))

are_mappable : (runs : List Run) → Decides (test.are_mappable runs) (AreMappable runs)
unfolding test.are_mappable
are_mappable runs =
    Decides-like _ (λ h. assumption) (λ h. assumption)
    (both (are_all (λ run. is_at_most (run.first + run.pages) page_number_end) runs) (is_at_most (sum_by (λ run. run.pages) runs) most_pages))

is_in_memory : (s : StateText) → Decides (test.is_in_memory s) (IsInMemory s)
unfolding test.is_in_memory
is_in_memory s =
    Decides-like _ (λ h. assumption) (λ h. assumption)
    (both (are_mappable s.runs) (are_all (λ page. is_test (maps (mapped_of s) (4096 * page.number) 4096)) s.pages))

-- states

is_reservation : (reservation : Option (ℕ × ℕ)) → Decides (test.is_reservation reservation) (IsReservation reservation)
is_reservation None = (λ t. tt, λ h. refl)
is_reservation (Some held) =
    Decides-like _ (λ h. (h.0, h.1.0, h.1.1)) (λ h. (h.0, (h.1, h.2)))
    (both (Decides-or (held.0 == 4) (held.0 == 8) (Decides-eqb held.0 4) (Decides-eqb held.0 8)) (both (Decides-eqb (held.1 % held.0) 0) (Decides-ltb held.1 address_end)))

pub is_in_range : (s : StateText) → Decides (test.is_in_range s) (IsInRange s)
unfolding test.is_in_range
is_in_range s =
    Decides-like _ (λ h. assumption) (λ h. assumption)
    (both (Decides-eqb (s.pc % 4) 0) (both (is_reservation s.reservation) (both (is_in_memory s) (both (fits (memory_of s) s.heap) (are_in_range (lists_in s))))))

pub is_joined : (s : StateText) → Decides (test.is_joined s) (IsJoined s)
unfolding test.is_joined
is_joined s =
    Decides-like _ (λ h. assumption) (λ h. assumption)
    (both (are_all (λ e. is_test (is_listed s.files e.1)) s.descriptors) (are_all (λ file. is_test (is_used s.descriptors file)) s.files))
