-- The runs and the pages of a memory, in order: what a text of a state lists.
use Rattle.std.specs.Prelude.{◌≡◌, ◌<◌, length, ℕ, zero, suc, ◌+◌, ◌*◌, ◌≤◌, Bool, true, ◌==◌, Option, None, Some, List, [], ◌∷◌, ◌++◌, if◌then◌else◌}
use Rattle.std.specs.FinMap.{contains_key}
use Rattle.ddc_base.specs.Limits.{page_number_end}
use Rattle.paged_mem.specs.Memory.{Memory, bytes_at, with_bytes, zeros}
use Rattle.save_format.specs.declared.state_text.parts.Run.{Run}
use Rattle.save_format.specs.StateText.StateText.{PageText, is_page, after_run, after_page}
use Rattle.save_format.specs.ByteFields.Spelling.{InTurn}

abbrev pub is_mapped : Memory → ℕ → Bool
is_mapped m page = contains_key m (4096 * page)

-- a mapped page in front of runs: it begins the first run if that follows at once
abbrev pub with_page : ℕ → List Run → List Run
with_page page [] = record { first = page; pages = 1 } ∷ []
with_page page (run ∷ runs) =
    if run.first == page + 1 then record { first = page; pages = run.pages + 1 } ∷ runs
    else record { first = page; pages = 1 } ∷ (run ∷ runs)

-- the runs of mapped pages among `count` pages from `page` on
unfoldable pub runs_from : (ℕ → Bool) → ℕ → ℕ → List Run
runs_from mapped page zero = []
runs_from mapped page (suc count) = if mapped page then with_page page (runs_from mapped (page + 1) count) else runs_from mapped (page + 1) count

-- a page that is mapped and not all zero is listed
abbrev pub listed_page : ℕ → Option (List ℕ) → List PageText
listed_page page None = []
listed_page page (Some bytes) = if is_page bytes then record { number = page; bytes = bytes } ∷ [] else []

unfoldable pub page_texts_from : Memory → ℕ → ℕ → List PageText
page_texts_from m page zero = []
page_texts_from m page (suc count) = listed_page page (bytes_at m (4096 * page) 4096) ++ page_texts_from m (page + 1) count

abbrev pub runs_of : Memory → List Run
runs_of m = runs_from (is_mapped m) 0 page_number_end

abbrev pub pages_of : Memory → List PageText
pages_of m = page_texts_from m 0 page_number_end

-- ---- the memory of runs and pages

-- the memory with these runs mapped in order, filled with zeros
unfoldable pub mapped_runs : Memory → List Run → Memory
mapped_runs m [] = m
mapped_runs m (run ∷ runs) = mapped_runs (with_bytes m (4096 * run.first) (zeros (4096 * run.pages))) runs

-- the memory with these pages written into it
unfoldable pub with_pages : Memory → List PageText → Memory
with_pages m [] = m
with_pages m (page ∷ pages) = with_bytes (with_pages m pages) (4096 * page.number) page.bytes

-- a run after the earlier ones, below the end of memory
pub record IsNextRun (least : ℕ) (run : Run) : Type 0 where
  pub from : least ≤ run.first
  pub some : 1 ≤ run.pages
  pub low : run.first + run.pages ≤ page_number_end

abbrev pub ArePlaced : ℕ → List Run → Type 0
ArePlaced least runs = InTurn IsNextRun after_run least runs

-- a whole page after the earlier ones, not all zero
pub record IsShown (least : ℕ) (page : PageText) : Type 0 where
  pub from : least ≤ page.number
  pub low : page.number < page_number_end
  pub full : length page.bytes ≡ 4096
  pub some : is_page page.bytes ≡ true

abbrev pub AreShown : ℕ → List PageText → Type 0
AreShown least pages = InTurn IsShown after_page least pages
