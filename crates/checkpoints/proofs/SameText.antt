-- A text that says a guest is that guest's text.
use Rattle.std.proofs.Common.{◌≡◌, ℕ, ◌+◌, ◌*◌, ◌^◌, ◌<◌, ◌≤◌, ◌/◌, ◌⊎◌, Bool, true, false, cond, Option, None, Some, inl, inr, List, [], ◌∷◌, length, map, All, is_some, refl, sym, ap, subst, ◌∙◌, arith}
use Rattle.std.specs.Prelude.{sum_by}
use Rattle.std.specs.FinMap as finite
use Rattle.std.specs.FinMap.Entries.{below_all}
use Rattle.std.specs.Ordering.{is_lt, nat_cmp}
use Rattle.std.specs.Cmp.{nat_cmp_is}
use Rattle.std.specs.declared.cmp.Ordering.TheVariants.{Less}
use Rattle.std.proofs.lemmas.List.Elements.{All-head, All-replicate, All-tail}
use Rattle.std.proofs.lemmas.Option.{none-some}
use Rattle.ddc_base.specs.Limits.{most_pages, page_number_end}
use Rattle.save_format.specs.ByteFields.Spelling.{InTurn}
use Rattle.paged_mem.specs.Memory.{IsWhole, Memory, maps, with_bytes, zeros}
use Rattle.paged_mem.proofs.Mapped.{length-zeros}
use Rattle.paged_mem.proofs.Wholes.{same_after_write, whole-mapped}
use Rattle.mem_files.specs.declared.open_file.OpenFile.{OpenFile}
use Rattle.mem_files.specs.Lists.{AreOrdered, ListedFile, lists_of, world_of}
use Rattle.checkpoints.proofs.FilePartsLemmas.SameLists.{same_lists}
use Rattle.checkpoints.specs.MemoryParts.Canonical.{ArePlaced, AreShown, with_pages, mapped_runs, pages_of, runs_from, runs_of}
use Rattle.checkpoints.proofs.MemoryPartsLemmas.PagesAgain.{IsZeroed, pages_again}
use Rattle.checkpoints.proofs.MemoryPartsLemmas.RunsAgain.{get-mapped_runs, in_runs, same_runs_again}
use Rattle.save_format.specs.declared.state_text.parts.Run.{Run}
use Rattle.save_format.specs.StateText.StateText.{PageText, StateText, after_page, after_run}
use Rattle.save_format.specs.StateText.Encoded.{IsDescriptor, IsFile, IsPage, IsStateText}
use Rattle.checkpoints.specs.Checkpoint.{IsInRange, guest_of, lists_in, mapped_of, memory_of, state_of}
use Rattle.checkpoints.proofs.FileTurns.{paired}
use Rattle.checkpoints.proofs.MemoryPartsLemmas.Filled.{Alike, maps-alike}
use Rattle.checkpoints.proofs.Memories.{EndsWithin, IsMappedIn, placed, shown}
use Rattle.checkpoints.proofs.PageCounts.{few_pages}
use Rattle.guest_run.specs.Valid.{Fits}

-- ---- memory

pub filled_alike : (Fits : ℕ → PageText → Type 0) → ((least : ℕ) (page : PageText) → Fits least page → length page.bytes ≡ 4096) → (m : Memory) (pages : List PageText) (least : ℕ)
    → InTurn Fits after_page least pages → All (IsMappedIn m) pages → Alike (with_pages m pages) m
unfolding with_pages
filled_alike Fits full m [] least turn mapped q = refl
filled_alike Fits full m (page ∷ pages) least turn mapped q =
    let rest = filled_alike Fits full m pages (after_page page) turn.1 (All-tail (IsMappedIn m) page pages mapped) in
    let here : maps (with_pages m pages) (4096 * page.number) (length page.bytes) ≡ true =
    ap (maps (with_pages m pages) (4096 * page.number)) (full least page turn.0) ∙ maps-alike (with_pages m pages) m rest (4096 * page.number) 4096 ∙ All-head (IsMappedIn m) page pages mapped in
    same_after_write (with_pages m pages) (4096 * page.number) page.bytes here q ∙ rest q

pub runs_same : (m n : Memory) → Alike m n → runs_of m ≡ runs_of n
runs_same m n same = ap (λ (mapped : ℕ → Bool). runs_from mapped 0 page_number_end) (λ i page. same (4096 * page) i)

-- ---- files

below_turn : {A X : Type 0} (number : A → ℕ) (value : A → X) (Fits : ℕ → A → Type 0) → ((s : ℕ) (a : A) → Fits s a → s ≤ number a) → (low least : ℕ) (xs : List A) → low < least → InTurn Fits (λ a. number a + 1) least xs
    → below_all nat_cmp low (map (λ a. (number a, value a)) xs) ≡ true
below_turn number value Fits from low least [] lt turn = refl
below_turn number value Fits from low least (x ∷ xs) lt turn =
    let first = from least x turn.0 in
    let less : is_lt (nat_cmp low (number x)) ≡ true = ap is_lt (sym (nat_cmp_is low (number x) Less (omega arith))) in
    rw less (below_turn number value Fits from low (number x + 1) xs (omega arith) turn.1)

sorted_turn : {A X : Type 0} (number : A → ℕ) (value : A → X) (Fits : ℕ → A → Type 0) → ((s : ℕ) (a : A) → Fits s a → s ≤ number a) → (least : ℕ) (xs : List A) → InTurn Fits (λ a. number a + 1) least xs
    → finite.is_sorted nat_cmp (map (λ a. (number a, value a)) xs) ≡ true
sorted_turn number value Fits from least [] turn = refl
sorted_turn number value Fits from least (x ∷ xs) turn =
    rw (below_turn number value Fits from (number x) (number x + 1) xs (omega arith) turn.1) (sorted_turn number value Fits from (number x + 1) xs turn.1)

pub ordered : (s : StateText) → IsStateText s → AreOrdered (lists_in s)
ordered s text = record {
  files_rise = sorted_turn (λ (f : ListedFile). f.number) (λ f. f.content) IsFile (λ least f fits. fits.from) 0 s.files text.files.1;
  open_files_rise = ap (finite.is_sorted nat_cmp) (sym (paired s.descriptors)) ∙ sorted_turn (λ (d : ℕ × OpenFile). d.0) (λ d. d.1) IsDescriptor (λ least d fits. fits.from) 0 s.descriptors text.descriptors.1;
  two_streams = refl;
}

-- ---- the whole

zeroed : (runs : List Run) → IsZeroed (mapped_runs finite.empty runs)
zeroed runs a = both (in_runs runs (a / 4096)) (finite.get (mapped_runs finite.empty runs) a) (get-mapped_runs runs finite.empty a (a / 4096) refl ∙ ap (cond (in_runs runs (a / 4096)) (Some 0)) (finite.get-empty nat_cmp a))
  where
    both : (b : Bool) (o : Option ℕ) → o ≡ cond b (Some 0) None → (o ≡ None) ⊎ (o ≡ Some 0)
    both true o e = inr e
    both false o e = inl e

same_pages_again : (runs : List Run) (pages : List PageText) → AreShown 0 pages → pages_of (with_pages (mapped_runs finite.empty runs) pages) ≡ pages
same_pages_again runs pages shown = pages_again (mapped_runs finite.empty runs) pages 0 0 page_number_end (zeroed runs) shown (omega arith) refl

pub no_memory : IsWhole finite.empty
no_memory = record {
  small = λ at byte e. absurd (none-some byte (sym (finite.get-empty nat_cmp at) ∙ e));
  low = λ at byte e. absurd (none-some byte (sym (finite.get-empty nat_cmp at) ∙ e));
  pages = λ at other same. ap is_some (finite.get-empty nat_cmp at) ∙ sym (ap is_some (finite.get-empty nat_cmp other));
}

zero_bytes : (count : ℕ) → All (λ byte. byte < 256) (zeros count)
unfolding zeros
zero_bytes count = All-replicate (λ (byte : ℕ). byte < 256) count 0 (omega arith)

pub whole_runs : (m : Memory) (runs : List Run) (least : ℕ) → IsWhole m → ArePlaced least runs → IsWhole (mapped_runs m runs)
unfolding mapped_runs
whole_runs m [] least whole turn = whole
whole_runs m (run ∷ runs) least whole turn =
    let size = length-zeros (4096 * run.pages) in
    let low = turn.0.low in
    whole_runs (with_bytes m (4096 * run.first) (zeros (4096 * run.pages))) runs (after_run run)
    (whole-mapped m (4096 * run.first) (zeros (4096 * run.pages)) whole (omega arith) (omega arith) (omega arith) (zero_bytes (4096 * run.pages))) turn.1

-- the runs are those of the memory that the text says
parsed_runs : (s : StateText) → IsStateText s → All EndsWithin s.runs → All (IsMappedIn (mapped_of s)) s.pages → runs_of (memory_of s) ≡ s.runs
parsed_runs s text within listed =
    runs_same (memory_of s) (mapped_of s) (filled_alike IsPage (λ least page is. is.full) (mapped_of s) s.pages 0 text.pages.1 listed) ∙ same_runs_again s.runs (placed s.runs 0 text.runs.1 within)

pub same_text : (s : StateText) → IsStateText s → IsInRange s → state_of (guest_of s) ≡ s
unfolding state_of guest_of
same_text s text range =
    let turn = placed s.runs 0 text.runs.1 range.memory.runs.within in
    let whole = whole_runs finite.empty s.runs 0 no_memory turn in
    let runs : runs_of (memory_of s) ≡ s.runs = parsed_runs s text range.memory.runs.within range.memory.listed in
    let pages : pages_of (memory_of s) ≡ s.pages = same_pages_again s.runs s.pages (shown (mapped_of s) s.pages 0 whole text.pages.1 range.memory.listed) in
    let files : lists_of (world_of (lists_in s)) ≡ lists_in s = same_lists (lists_in s) (ordered s text) range.files in
    λ i. record {
      steps = s.steps;
      pc = s.pc;
      registers = s.registers;
      reservation = s.reservation;
      heap = s.heap;
      runs = runs i;
      pages = pages i;
      files = (files i).files;
      descriptors = (files i).open_files;
      stream1 = s.stream1;
      stream2 = s.stream2;
    }

pub few_in_text : (s : StateText) → IsStateText s → All EndsWithin s.runs → All (IsMappedIn (mapped_of s)) s.pages → Fits (memory_of s) s.heap → sum_by (λ (run : Run). run.pages) s.runs ≤ most_pages
few_in_text s text within listed fits =
    subst (λ (runs : List Run). sum_by (λ (run : Run). run.pages) runs ≤ most_pages) (parsed_runs s text within listed) (few_pages (memory_of s) s.heap fits)
