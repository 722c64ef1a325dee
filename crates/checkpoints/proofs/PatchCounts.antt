-- How many pages a state lists, and how many of them change.
use Rattle.std.proofs.Common.{◌≡◌, ℕ, zero, suc, ◌+◌, ◌^◌, ◌<◌, ◌≤◌, true, false, cond, Option, None, Some, List, [], ◌∷◌, length, sym, ap, arith}
use Rattle.std.proofs.Common.{Result, Ok, Err}
use Rattle.std.specs.Prelude.{IfOk}
use Rattle.ddc_base.specs.declared.byte_list.OutOfMemory.{OutOfMemory}
use Rattle.ddc_base.specs.Limits.{page_number_end}
use Rattle.save_format.specs.StateText.Seen.{state_view}
use Rattle.save_format.specs.declared.state_text.parts.StateParts.{StateParts}
use Rattle.std.specs.FinMap as finite
use Rattle.std.proofs.lemmas.Option.{none-some, same_Some}
use Rattle.save_format.specs.ByteFields.Spelling.{InTurn}
use Rattle.guest_run.specs.State.{GuestState}
use Rattle.checkpoints.specs.MemoryParts.Canonical.{AreShown, pages_of}
use Rattle.save_format.specs.StateText.StateText.{PageText, StateText, after_page}
use Rattle.save_format.specs.StateText.Encoded.{IsPage, IsStateText}
use Rattle.checkpoints.specs.Checkpoint.{IsInRange, mapped_of, state_of}
use Rattle.checkpoints.proofs.Memories.{placed, shown}
use Rattle.checkpoints.proofs.SameText.{no_memory, whole_runs}
use Rattle.checkpoints.proofs.Turns.{pages_shown}
use Rattle.save_format.specs.PatchText.Numbered.{items_from, with_item}
use Rattle.save_format.specs.PatchText.PatchText.{PageChange, page_in, page_of, equal_contents}
use Rattle.save_format.specs.PatchText.Encoded.{IsPatched, page_change_of, page_changes}
use Rattle.save_format.proofs.PatchTextLemmas.Pages.{page_again, page_number, pages_rise, page_whole}
use Rattle.save_format.proofs.PatchTextLemmas.Rising.{has_number, items_again}

-- ---- pages that are in memory are few

shown_few : (least : ℕ) (pages : List PageText) → AreShown least pages → least ≤ page_number_end → length pages + least ≤ page_number_end
shown_few least [] turn le = omega (arith, le)
shown_few least (page ∷ pages) turn le = let rest = shown_few (page.number + 1) pages turn.1 (omega (arith, turn.0.low)) in omega (arith, rest, turn.0.from)

pub range_few : (base s : StateText) → IsPatched base s → IsInRange s → length s.pages < 2 ^ 32
range_few base s text range =
    let turn = placed s.runs 0 text.runs.1 range.memory.runs.within in
    let whole = whole_runs finite.empty s.runs 0 no_memory turn in
    let few = shown_few 0 s.pages (shown (mapped_of s) s.pages 0 whole text.pages.turn range.memory.listed) (omega arith) in
    omega (arith, few)

pub many_pages : (base s : StateText) → IsPatched base s → ¬ (length s.pages < 2 ^ 32) → ¬ (IsInRange s)
many_pages base s text many range = many (range_few base s text range)

pub counted_text : (base s : StateText) → IsPatched base s → length s.pages < 2 ^ 32 → IsStateText s
counted_text base s text few = record {
  steps = text.steps;
  pc = text.pc;
  registers = text.registers;
  register = text.register;
  reservation = text.reservation;
  heap = text.heap;
  runs = text.runs;
  pages = (few, text.pages.turn);
  files = text.files;
  descriptors = text.descriptors;
  stream1 = text.stream1;
  stream2 = text.stream2;
}

-- ---- changes are no more than the pages of both

abbrev pub count_of : {A : Type 0} → Option A → ℕ
count_of None = 0
count_of (Some x) = 1

pub item_count : {A : Type 0} (o : Option A) (xs : List A) → length (with_item o xs) ≡ count_of o + length xs
item_count None xs = omega arith
item_count (Some x) xs = omega arith

change_count : (n : ℕ) (known found : Option (List ℕ)) → count_of (page_change_of n known found) ≤ count_of (page_of n known) + count_of (page_of n found)
change_count n None None = omega arith
change_count n None (Some found) = omega arith
change_count n (Some known) None = omega arith
change_count n (Some known) (Some found) =
    elim (equal_contents (Some known) (Some found)) as (λ b. count_of {A = PageChange} (cond b None (Some (record { number = n; bytes = Some found }))) ≤ 2) [
      | true ↦ omega arith
      | false ↦ omega arith
    ]

changes_from : (base pages : List PageText) (count n : ℕ) → length (items_from (λ n. page_change_of n (page_in base n) (page_in pages n)) n count)
    ≤ length (items_from (λ n. page_of n (page_in base n)) n count) + length (items_from (λ n. page_of n (page_in pages n)) n count)
unfolding items_from
changes_from base pages zero n = omega arith
changes_from base pages (suc count) n =
    let later = changes_from base pages count (n + 1) in
    let here = change_count n (page_in base n) (page_in pages n) in
    omega (
      arith,
      later,
      here,
      item_count (page_change_of n (page_in base n) (page_in pages n)) (items_from (λ n. page_change_of n (page_in base n) (page_in pages n)) (n + 1) count),
      item_count (page_of n (page_in base n)) (items_from (λ n. page_of n (page_in base n)) (n + 1) count),
      item_count (page_of n (page_in pages n)) (items_from (λ n. page_of n (page_in pages n)) (n + 1) count),
    )

placed_at : (n : ℕ) (found : Option (List ℕ)) (page : PageText) → page_of n found ≡ Some page → page.number ≡ n
placed_at n None page e = absurd (none-some page e)
placed_at n (Some bytes) page e =
    let is : record { number = n; bytes = bytes } ≡ page = same_Some (record { number = n; bytes = bytes }) page e in
    ap page_number (sym is)

pub listed_again : (pages : List PageText) → InTurn IsPage after_page 0 pages → items_from (λ n. page_of n (page_in pages n)) 0 (2 ^ 32) ≡ pages
listed_again pages turn =
    items_again page_number (λ n. page_of n (page_in pages n)) (λ n p e. placed_at n (page_in pages n) p e) pages (2 ^ 32) (pages_rise 0 pages turn)
    (λ n p e. omega (arith, has_number page_number pages n p e, (page_whole pages n p turn e).number)) (λ n lt. page_again pages n)

pub changes_few : (base pages : List PageText) → InTurn IsPage after_page 0 base → InTurn IsPage after_page 0 pages → length (page_changes base pages) ≤ length base + length pages
unfolding page_changes
changes_few base pages b p = omega (arith, changes_from base pages (2 ^ 32) 0, ap length (listed_again base b), ap length (listed_again pages p))

pub few_of : (g : GuestState) → length (state_of g).pages ≤ page_number_end
unfolding state_of
few_of g = omega (arith, shown_few 0 (pages_of g.hart.memory) (pages_shown g.hart.memory) (omega arith))

pub few_seen : (g : GuestState) (result : Result StateParts OutOfMemory) → IfOk result (λ parts. state_view parts ≡ state_of g) → IfOk result (λ parts. length (state_view parts).pages ≤ page_number_end)
few_seen g (Ok parts) seen = omega (arith, few_of g, ap (λ (s : StateText). length s.pages) seen)
few_seen g (Err e) seen = tt

-- the state of a guest has a patch against each that lists few pages
pub has_patch : (base : StateText) (g : GuestState) → IsStateText base → length base.pages ≤ page_number_end → IsStateText (state_of g) → IsPatched base (state_of g)
has_patch base g b few t = record {
  steps = t.steps;
  pc = t.pc;
  registers = t.registers;
  register = t.register;
  reservation = t.reservation;
  heap = t.heap;
  runs = t.runs;
  pages = record { turn = t.pages.1; few = omega (arith, few, few_of g, changes_few base.pages (state_of g).pages b.pages.1 t.pages.1) };
  files = t.files;
  descriptors = t.descriptors;
  stream1 = t.stream1;
  stream2 = t.stream2;
}

-- each state has a patch against itself without its pages
pub patched_bare : (s : StateText) → IsStateText s → (base : StateText) × IsPatched base s
patched_bare s t = (
  record s { pages = [] },
  record {
    steps = t.steps;
    pc = t.pc;
    registers = t.registers;
    register = t.register;
    reservation = t.reservation;
    heap = t.heap;
    runs = t.runs;
    pages = record { turn = t.pages.1; few = omega (arith, t.pages.0, changes_few [] s.pages tt t.pages.1) };
    files = t.files;
    descriptors = t.descriptors;
    stream1 = t.stream1;
    stream2 = t.stream2;
  },
)
