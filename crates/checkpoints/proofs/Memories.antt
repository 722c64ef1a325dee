-- What runs and pages of a text say of memory.
use Rattle.std.proofs.Common.{◌≡◌, ℕ, suc, ◌+◌, ◌*◌, ◌^◌, ◌<◌, ◌≤◌, true, List, [], ◌∷◌, length, map, All, Option, None, Some, is_some, IsTrue, refl, ap, ◌∙◌, arith}
use Rattle.std.specs.List.{AllByRecursion}
use Rattle.std.specs.FinMap as finite
use Rattle.std.proofs.lemmas.List.Elements.{All-from_recursion, All-head, All-tail}
use Rattle.ddc_base.specs.Limits.{address_end, page_number_end}
use Rattle.save_format.specs.ByteFields.Spelling.{InTurn}
use Rattle.paged_mem.specs.Memory.{IsWhole, Memory, bytes_at, maps, prepended}
use Rattle.checkpoints.specs.MemoryParts.Canonical.{AreShown, ArePlaced, with_pages}
use Rattle.checkpoints.proofs.MemoryPartsLemmas.Filling.{any_order, filled_on}
use Rattle.save_format.specs.declared.state_text.parts.Page.{Page}
use Rattle.save_format.specs.declared.state_text.parts.Run.{Run}
use Rattle.save_format.specs.StateText.StateText.{PageText, StateText, after_page, after_run}
use Rattle.save_format.specs.StateText.Encoded.{IsPage, IsSavedRun, IsStateText}
use Rattle.save_format.specs.StateText.Seen.{page_view}
use Rattle.checkpoints.specs.Checkpoint.{mapped_of, memory_of}

abbrev pub EndsWithin : Run → Type 0
EndsWithin run = run.first + run.pages ≤ page_number_end

abbrev pub IsMappedIn : Memory → PageText → Type 0
IsMappedIn m page = IsTrue (maps m (4096 * page.number) 4096)

pub placed : (runs : List Run) (least : ℕ) → InTurn IsSavedRun after_run least runs → All EndsWithin runs → ArePlaced least runs
placed [] least turn within = tt
placed (run ∷ runs) least turn within =
    (record { from = turn.0.from; some = turn.0.some; low = All-head EndsWithin run runs within }, placed runs (after_run run) turn.1 (All-tail EndsWithin run runs within))

full_by : (pages : List Page) (least : ℕ) → InTurn IsPage after_page least (map page_view pages) → AllByRecursion (λ (page : Page). length page.bytes.now ≡ 4096) pages
full_by [] least turn = tt
full_by (page ∷ pages) least turn = (turn.0.full, full_by pages (after_page (page_view page)) turn.1)

pub full_pages : (pages : List Page) → InTurn IsPage after_page 0 (map page_view pages) → All (λ (page : Page). length page.bytes.now ≡ 4096) pages
full_pages pages turn = All-from_recursion (λ (page : Page). length page.bytes.now ≡ 4096) pages (full_by pages 0 turn)

seen_by : (P : PageText → Type 0) (pages : List Page) → All P (map page_view pages) → AllByRecursion (λ (page : Page). P (page_view page)) pages
seen_by P [] all = tt
seen_by P (page ∷ pages) all = (All-head P (page_view page) (map page_view pages) all, seen_by P pages (All-tail P (page_view page) (map page_view pages) all))

-- what holds of what is seen of pages
pub seen : (P : PageText → Type 0) (pages : List Page) → All P (map page_view pages) → All (λ (page : Page). P (page_view page)) pages
seen P pages all = All-from_recursion (λ (page : Page). P (page_view page)) pages (seen_by P pages all)

first_there : (o : Option ℕ) (rest : Option (List ℕ)) → is_some (prepended o rest) ≡ true → (byte : ℕ) × (o ≡ Some byte)
first_there None rest e = absurd cc
first_there (Some byte) rest e = (byte, refl)

first_byte : (m : Memory) (at count : ℕ) → maps m at (suc count) ≡ true → (byte : ℕ) × (finite.get m at ≡ Some byte)
unfolding bytes_at
first_byte m at count e = first_there (finite.get m at) (bytes_at m (suc at) count) e

-- a page that is mapped is in memory
low_page : (m : Memory) (number : ℕ) → IsWhole m → IsTrue (maps m (4096 * number) 4096) → number < page_number_end
low_page m number whole mapped =
    let there = first_byte m (4096 * number) 4095 mapped in
    let low : 4096 * number < address_end = whole.low (4096 * number) there.0 there.1 in
    omega arith

pub shown : (m : Memory) (pages : List PageText) (least : ℕ) → IsWhole m → InTurn IsPage after_page least pages → All (IsMappedIn m) pages → AreShown least pages
shown m [] least whole turn mapped = tt
shown m (page ∷ pages) least whole turn mapped = (
  record { from = turn.0.from; low = low_page m page.number whole (All-head (IsMappedIn m) page pages mapped); full = turn.0.full; some = turn.0.some },
  shown m pages (after_page page) whole turn.1 (All-tail (IsMappedIn m) page pages mapped),
)

-- the memory into which the pages were written
pub is_made : (s : StateText) (made filled_in : Memory) → IsStateText s → IsWhole made → made ≡ mapped_of s → All (IsMappedIn made) s.pages → filled_in ≡ filled_on made s.pages → filled_in ≡ memory_of s
is_made s made filled_in text whole is mapped written =
    written ∙ any_order made s.pages 0 (shown made s.pages 0 whole text.pages.1 mapped) ∙ ap (λ (m : Memory). with_pages m s.pages) is
