-- A guest's state has a text, which says that guest.
use Rattle.std.proofs.Common.{◌≡◌, ℕ, ◌^◌, ◌<◌, Option, None, Some, List, [], ◌∷◌, length, drop, All, sym, ap, subst, ◌∙◌, arith}
use Rattle.std.specs.Prelude.{slice_index}
use Rattle.std.specs.FinMap as finite
use Rattle.std.proofs.lemmas.List.{length-drop}
use Rattle.std.proofs.lemmas.List.Elements.{All-cons, All-drop, All-head, All-nil, All-tail}
use Rattle.save_format.specs.ByteFields.Spelling.{Alike, InTurn}
use Rattle.paged_mem.specs.Memory.{IsWhole, Memory}
use Rattle.mem_files.specs.Lists.{lists_of}
use Rattle.checkpoints.proofs.FilePartsLemmas.GoodLists.{good_join, good_order, good_range}
use Rattle.checkpoints.proofs.FilePartsLemmas.SameWorld.{same_world}
use Rattle.rv64_machine.specs.Hart.{IsReservation}
use Rattle.guest_run.specs.State.{GuestState}
use Rattle.guest_run.specs.Valid.{Fits, IsValid}
use Rattle.checkpoints.specs.MemoryParts.Canonical.{ArePlaced, AreShown, with_pages, mapped_runs, pages_of, runs_of}
use Rattle.checkpoints.proofs.MemoryPartsLemmas.Again.{same_again}
use Rattle.checkpoints.proofs.MemoryPartsLemmas.RunsAgain.{zero_runs_mapped}
use Rattle.save_format.specs.declared.state_text.parts.Run.{Run}
use Rattle.save_format.specs.StateText.StateText.{PageText, StateText, after_page, after_run}
use Rattle.save_format.specs.StateText.Encoded.{IsPage, IsReserved, IsSavedRun, IsStateText}
use Rattle.checkpoints.specs.Checkpoint.{IsInRange, IsJoined, guest_of, state_of}
use Rattle.checkpoints.proofs.FileTurns.{have_text}
use Rattle.checkpoints.proofs.MemoryPartsLemmas.Filled.{maps-alike}
use Rattle.checkpoints.proofs.Memories.{EndsWithin, IsMappedIn}
use Rattle.checkpoints.proofs.PageCounts.{few_pages}
use Rattle.checkpoints.proofs.Turns.{few_listed, few_runs, pages_mapped, pages_shown, runs_alike, runs_placed}

alike_of : (P : ℕ → Type 0) (xs : List ℕ) → All P xs → Alike P xs
alike_of P [] all = tt
alike_of P (x ∷ xs) all = (All-head P x xs all, alike_of P xs (All-tail P x xs all))

run_turn : (least : ℕ) (runs : List Run) → ArePlaced least runs → InTurn IsSavedRun after_run least runs
run_turn least [] turn = tt
run_turn least (run ∷ runs) turn =
    let low = turn.0.low in
    let some = turn.0.some in
    (record { from = turn.0.from; first = omega arith; some = turn.0.some; pages = omega arith }, run_turn (after_run run) runs turn.1)

ends_within : (least : ℕ) (runs : List Run) → ArePlaced least runs → All EndsWithin runs
ends_within least [] turn = All-nil EndsWithin
ends_within least (run ∷ runs) turn = All-cons EndsWithin run runs turn.0.low (ends_within (after_run run) runs turn.1)

page_turn : (least : ℕ) (pages : List PageText) → AreShown least pages → InTurn IsPage after_page least pages
page_turn least [] turn = tt
page_turn least (page ∷ pages) turn =
    let low = turn.0.low in
    (record { from = turn.0.from; number = omega arith; full = turn.0.full; some = turn.0.some }, page_turn (after_page page) pages turn.1)

reserved_is : (reservation : Option (ℕ × ℕ)) → IsReservation reservation → IsReserved reservation
reserved_is None is = tt
reserved_is (Some held) is = (is.0, omega (arith, is.2))

pub is_text : (g : GuestState) → IsValid g → g.steps < 2 ^ 64 → IsStateText (state_of g)
unfolding state_of
is_text g valid steps =
    let l = lists_of g.world in
    let text = have_text l (good_order g.world valid.files) (good_range g.world valid.files) (good_join g.world valid.files) in
    let count = valid.hart.count in
    let heap = valid.fits.heap_of in
    let limit = heap.small in
    let low = heap.low in
    let to = heap.to in
    let stream1 = valid.files.within.small_stream1 in
    let stream2 = valid.files.within.small_stream2 in
    record {
      steps = steps;
      pc = valid.numbers.pc;
      registers = omega (arith, length-drop 1 g.hart.registers);
      register = alike_of (λ n. n < 2 ^ 64) (drop 1 g.hart.registers) (All-drop (λ n. n < 2 ^ 64) 1 g.hart.registers valid.numbers.registers);
      reservation = reserved_is g.hart.reservation valid.hart.reserved;
      heap = record { first = omega arith; now = omega arith; limit = omega arith };
      runs = (few_runs g.hart.memory, run_turn 0 (runs_of g.hart.memory) (runs_placed g.hart.memory));
      pages = (few_listed g.hart.memory, page_turn 0 (pages_of g.hart.memory) (pages_shown g.hart.memory));
      files = text.files;
      descriptors = text.open_files;
      stream1 = record { short = omega arith };
      stream2 = record { short = omega arith };
    }

parsed_memory : (m : Memory) → IsWhole m → with_pages (mapped_runs finite.empty (runs_of m)) (pages_of m) ≡ m
parsed_memory m whole = ap (λ z. with_pages z (pages_of m)) (sym (zero_runs_mapped (runs_of m))) ∙ same_again m whole

listed_in : (m n : Memory) (pages : List PageText) → ((page : PageText) → IsMappedIn m page → IsMappedIn n page) → All (IsMappedIn m) pages → All (IsMappedIn n) pages
listed_in m n [] same all = All-nil (IsMappedIn n)
listed_in m n (page ∷ pages) same all = All-cons (IsMappedIn n) page pages (same page (All-head (IsMappedIn m) page pages all)) (listed_in m n pages same (All-tail (IsMappedIn m) page pages all))

pub in_range : (g : GuestState) → IsValid g → IsInRange (state_of g)
unfolding state_of
in_range g valid =
    let m = g.hart.memory in
    let whole = valid.hart.whole in
    record {
      aligned = valid.hart.aligned;
      reserved = valid.hart.reserved;
      memory = record {
        runs = record { within = ends_within 0 (runs_of m) (runs_placed m); few = few_pages m g.heap valid.fits };
        listed = listed_in m (mapped_runs finite.empty (runs_of m)) (pages_of m) (λ page mapped. maps-alike (mapped_runs finite.empty (runs_of m)) m (runs_alike m whole) _ _ ∙ mapped) (pages_mapped m);
      };
      fits = subst (λ (n : Memory). Fits n g.heap) (sym (parsed_memory m whole)) valid.fits;
      files = good_range g.world valid.files;
    }

pub joined : (g : GuestState) → IsValid g → IsJoined (state_of g)
unfolding state_of
joined g valid = good_join g.world valid.files

registers_again : (registers : List ℕ) → length registers ≡ 32 → slice_index registers 0 ≡ 0 → 0 ∷ drop 1 registers ≡ registers
registers_again [] count is = absurd (omega arith)
registers_again (x ∷ xs) count is = ap (λ v. v ∷ xs) (sym is)

pub same_guest : (g : GuestState) → IsValid g → guest_of (state_of g) ≡ g
unfolding guest_of state_of
same_guest g valid =
    λ i. record {
      hart = record { registers = registers_again g.hart.registers valid.hart.count valid.hart.zero i; pc = g.hart.pc; memory = parsed_memory g.hart.memory valid.hart.whole i; reservation = g.hart.reservation };
      world = same_world g.world valid.files i;
      heap = g.heap;
      steps = g.steps;
    }

-- a text says a guest's state where each of its fields does
pub parsed : (g : GuestState) (s : StateText) → s.steps ≡ g.steps → s.pc ≡ g.hart.pc → s.registers ≡ drop 1 g.hart.registers → s.reservation ≡ g.hart.reservation → s.heap ≡ g.heap → s.runs ≡ runs_of g.hart.memory → s.pages ≡ pages_of g.hart.memory
    → s.files ≡ (lists_of g.world).files → s.descriptors ≡ (lists_of g.world).open_files → s.stream1 ≡ g.world.stream1 → s.stream2 ≡ g.world.stream2 → s ≡ state_of g
unfolding state_of
parsed g s steps pc registers reservation heap runs pages files descriptors stream1 stream2 =
    λ i. record { steps = steps i; pc = pc i; registers = registers i; reservation = reservation i; heap = heap i; runs = runs i; pages = pages i; files = files i; descriptors = descriptors i; stream1 = stream1 i; stream2 = stream2 i }
