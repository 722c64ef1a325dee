-- The rules of a parsed text, as tests that compute. proofs/Decided.antt shows that they are the rules, so no promise depends on this
-- file.
use Rattle.std.specs.Prelude.{ℕ, zero, suc, ◌+◌, ◌-◌, ◌*◌, ◌%◌, Bool, true, not, ◌&&◌, ◌||◌, ◌==◌, nat_le, nat_lt, is_none, Option, None, Some, List, [], ◌∷◌, length, map, sum_by}
use Rattle.std.specs.FinMap.{get}
use Rattle.std.specs.List.{list_all}
use Rattle.std.specs.Ordering.{eq_by_cmp}
use Rattle.paged_mem.specs.Memory.{Memory, maps, page_up}
use Rattle.ddc_base.specs.Limits.{address_end, file_number_end, most_content, most_descriptors, most_heap, most_names, most_pages, most_pages_apart, most_total, page_number_end, stack_size}
use Rattle.mem_files.specs.Lists.{FileLists, is_listed, is_used, named}
use Rattle.mem_files.specs.Names.{bytes_cmp, is_stripped_name}
use Rattle.linux_calls.specs.declared.Heap.{Heap}
use Rattle.guest_run.specs.Stack.{stack_end}
use Rattle.guest_run.specs.Valid.{pages_apart}
use Rattle.save_format.specs.declared.state_text.parts.Run.{Run}
use Rattle.save_format.specs.StateText.StateText.{StateText}
use Rattle.checkpoints.specs.Checkpoint.{lists_in, mapped_of, memory_of}
use Rattle.checkpoints.specs.FileParts.Inside.Judged.{is_open_file_at}

-- files

abbrev pub are_bytes : List ℕ → Bool
are_bytes bytes = list_all (λ byte. nat_lt byte 256) bytes

abbrev pub is_content : List ℕ → Bool
is_content content = are_bytes content && nat_le (length content) most_content

abbrev pub are_distinct : {A : Type 0} → (A → A → Bool) → List A → Bool
are_distinct same [] = true
are_distinct same (x ∷ xs) = list_all (λ y. not (same x y)) xs && are_distinct same xs

unfoldable pub are_files_in_range : FileLists → Bool
are_files_in_range lists =
    nat_le (length (named lists.files)) most_names
    && (list_all (λ e. is_stripped_name e.0 && are_bytes e.0) (named lists.files)
    && (are_distinct (eq_by_cmp bytes_cmp) (map (λ e. e.0) (named lists.files))
    && (list_all (λ file. nat_lt file.number file_number_end) lists.files
    && (list_all (λ file. is_content file.content) lists.files
    && (list_all is_content lists.streams
    && (nat_le (sum_by length lists.streams + sum_by (λ file. length file.content) lists.files) most_total
    && (list_all (λ e. nat_lt e.0 most_descriptors) lists.open_files && list_all (λ e. is_open_file_at e.0 e.1) lists.open_files)))))))

-- memory

abbrev pub is_free : Memory → ℕ → ℕ → Bool
is_free m at zero = true
is_free m at (suc count) = is_none (get m (at + count)) && is_free m at count

unfoldable pub is_heap_of : Memory → Heap → Bool
is_heap_of m heap =
    heap.first % 4096 == 0
    && (nat_le heap.limit most_heap
    && (nat_le heap.first heap.now
    && (nat_le heap.now (heap.first + heap.limit)
    && (nat_le (heap.first + heap.limit) (address_end - stack_size)
    && (maps m heap.first (page_up heap.now - heap.first) && is_free m (page_up heap.now) (page_up (heap.first + heap.limit) - page_up heap.now))))))

unfoldable pub is_fit : Memory → Heap → Bool
is_fit m heap = is_heap_of m heap && (maps m (stack_end - stack_size) stack_size && nat_le (pages_apart m heap) most_pages_apart)

unfoldable pub are_mappable : List Run → Bool
are_mappable runs = list_all (λ run. nat_le (run.first + run.pages) page_number_end) runs && nat_le (sum_by (λ run. run.pages) runs) most_pages

unfoldable pub is_in_memory : StateText → Bool
is_in_memory s = are_mappable s.runs && list_all (λ page. maps (mapped_of s) (4096 * page.number) 4096) s.pages

-- states

abbrev pub is_reservation : Option (ℕ × ℕ) → Bool
is_reservation None = true
is_reservation (Some held) = (held.0 == 4 || held.0 == 8) && (held.1 % held.0 == 0 && nat_lt held.1 address_end)

unfoldable pub is_in_range : StateText → Bool
is_in_range s = s.pc % 4 == 0 && (is_reservation s.reservation && (is_in_memory s && (is_fit (memory_of s) s.heap && are_files_in_range (lists_in s))))

unfoldable pub is_joined : StateText → Bool
is_joined s = list_all (λ e. is_listed s.files e.1) s.descriptors && list_all (λ file. is_used s.descriptors file) s.files
