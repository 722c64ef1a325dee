-- The runs and the pages of a memory have a text.
use Rattle.std.proofs.Common.{◌≡◌, ℕ, zero, suc, ◌+◌, ◌*◌, ◌/◌, ◌^◌, ◌<◌, ◌≤◌, Bool, true, false, cond, eqb, eqb-true, eq-eqb, List, [], ◌∷◌, ◌++◌, length, All, Option, None, Some, is_some, inr, refl, sym, ap, subst, ◌∙◌, arith}
use Rattle.std.specs.FinMap as finite
use Rattle.std.proofs.lemmas.List.Elements.{All-cons, All-nil}
use Rattle.ddc_base.specs.Limits.{address_end, page_number_end}
use Rattle.paged_mem.specs.Memory.{IsWhole, Memory, bytes_at}
use Rattle.paged_mem.proofs.Maps.{length_of_bytes_at}
use Rattle.checkpoints.specs.MemoryParts.Canonical.{ArePlaced, AreShown, is_mapped, listed_page, mapped_runs, page_texts_from, pages_of, runs_from, runs_of, with_page}
use Rattle.checkpoints.specs.MemoryParts.Inside.Zeros.{zero_runs}
use Rattle.checkpoints.proofs.MemoryPartsLemmas.Again.{runs_in, runs_out}
use Rattle.checkpoints.proofs.MemoryPartsLemmas.RunsAgain.{zero_runs_mapped}
use Rattle.save_format.specs.declared.state_text.parts.Run.{Run}
use Rattle.save_format.specs.StateText.StateText.{PageText, after_run, is_page}
use Rattle.checkpoints.proofs.MemoryPartsLemmas.Filled.{Alike}
use Rattle.checkpoints.proofs.Memories.{IsMappedIn}

-- ---- runs

weaker_runs : (least low : ℕ) (runs : List Run) → low ≤ least → ArePlaced least runs → ArePlaced low runs
weaker_runs least low [] le turn = tt
weaker_runs least low (run ∷ runs) le turn = let from = turn.0.from in (record { from = omega arith; some = turn.0.some; low = turn.0.low }, turn.1)

placed_before : (page : ℕ) (run : Run) (runs : List Run) (b : Bool) → page + 1 ≤ page_number_end → ArePlaced (page + 1) (run ∷ runs) → eqb run.first (page + 1) ≡ b
    → ArePlaced page (cond b (record { first = page; pages = run.pages + 1 } ∷ runs) (record { first = page; pages = 1 } ∷ (run ∷ runs)))
placed_before page run runs true low turn e =
    let next : run.first ≡ page + 1 = eqb-true run.first (page + 1) e in
    let high = turn.0.low in
    let after : after_run run ≡ page + (run.pages + 1) + 1 = omega arith in
    (record { from = omega arith; some = omega arith; low = omega arith }, subst (λ (n : ℕ). ArePlaced n runs) after turn.1)
placed_before page run runs false low turn e =
    let from = turn.0.from in
    let apart : run.first ≡ page + 1 → ⊥ = λ same. (let yes : eqb run.first (page + 1) ≡ true = eq-eqb run.first (page + 1) same in let no : true ≡ false = sym yes ∙ e in cc) in
    (record { from = omega arith; some = omega arith; low = low }, (record { from = omega arith; some = turn.0.some; low = turn.0.low }, turn.1))

placed_more : (page : ℕ) (runs : List Run) → page + 1 ≤ page_number_end → ArePlaced (page + 1) runs → ArePlaced page (with_page page runs)
placed_more page [] low turn = (record { from = omega arith; some = omega arith; low = low }, tt)
placed_more page (run ∷ runs) low turn = placed_before page run runs (eqb run.first (page + 1)) low turn refl

runs_by : (page : ℕ) (runs : List Run) (b : Bool) → page + 1 ≤ page_number_end → ArePlaced (page + 1) runs → ArePlaced page (cond b (with_page page runs) runs)
runs_by page runs true low turn = placed_more page runs low turn
runs_by page runs false low turn = weaker_runs (page + 1) page runs (omega arith) turn

runs_turn : (mapped : ℕ → Bool) (page count : ℕ) → page + count ≤ page_number_end → ArePlaced page (runs_from mapped page count)
unfolding runs_from
runs_turn mapped page zero low = tt
runs_turn mapped page (suc count) low = runs_by page (runs_from mapped (page + 1) count) (mapped page) (omega arith) (runs_turn mapped (page + 1) count (omega arith))

pub runs_placed : (m : Memory) → ArePlaced 0 (runs_of m)
runs_placed m = runs_turn (is_mapped m) 0 page_number_end (omega arith)

length_before : (page : ℕ) (run : Run) (runs : List Run) (b : Bool) → length (cond b (record { first = page; pages = run.pages + 1 } ∷ runs) (record { first = page; pages = 1 } ∷ (run ∷ runs))) ≤ 2 + length runs
length_before page run runs true = omega arith
length_before page run runs false = omega arith

length_more : (page : ℕ) (runs : List Run) → length (with_page page runs) ≤ 1 + length runs
length_more page [] = omega arith
length_more page (run ∷ runs) = omega (arith, length_before page run runs (eqb run.first (page + 1)))

length_by : (page : ℕ) (runs : List Run) (b : Bool) → length (cond b (with_page page runs) runs) ≤ 1 + length runs
length_by page runs true = length_more page runs
length_by page runs false = omega arith

runs_length : (mapped : ℕ → Bool) (page count : ℕ) → length (runs_from mapped page count) ≤ count
unfolding runs_from
runs_length mapped page zero = omega arith
runs_length mapped page (suc count) = omega (arith, length_by page (runs_from mapped (page + 1) count) (mapped page), runs_length mapped (page + 1) count)

pub few_runs : (m : Memory) → length (runs_of m) < 2 ^ 32
few_runs m = let few = runs_length (is_mapped m) 0 page_number_end in omega arith

-- ---- pages

weaker_pages : (least low : ℕ) (pages : List PageText) → low ≤ least → AreShown least pages → AreShown low pages
weaker_pages least low [] le turn = tt
weaker_pages least low (page ∷ pages) le turn = let from = turn.0.from in (record { from = omega arith; low = turn.0.low; full = turn.0.full; some = turn.0.some }, turn.1)

-- what is known of a page and those after it
record ArePages (m : Memory) (page count : ℕ) (pages : List PageText) : Type 0 where
  shown : AreShown page pages
  mapped : All (IsMappedIn m) pages
  few : length pages ≤ count

shown_by : (m : Memory) (page count : ℕ) (bytes : List ℕ) (pages : List PageText) (b : Bool) → page + 1 ≤ page_number_end → bytes_at m (4096 * page) 4096 ≡ Some bytes → is_page bytes ≡ b → ArePages m (page + 1) count pages
    → ArePages m page (suc count) (cond b (record { number = page; bytes = bytes } ∷ []) [] ++ pages)
shown_by m page count bytes pages true low is some rest = record {
  shown = (record { from = omega arith; low = omega arith; full = length_of_bytes_at m (4096 * page) 4096 bytes is; some = some }, rest.shown);
  mapped = All-cons (IsMappedIn m) (record { number = page; bytes = bytes }) pages (ap is_some is) rest.mapped;
  few = (let few = rest.few in omega arith);
}
shown_by m page count bytes pages false low is some rest = record { shown = weaker_pages (page + 1) page pages (omega arith) rest.shown; mapped = rest.mapped; few = (let few = rest.few in omega arith) }

shown_more : (m : Memory) (page count : ℕ) (o : Option (List ℕ)) (pages : List PageText) → page + 1 ≤ page_number_end → bytes_at m (4096 * page) 4096 ≡ o → ArePages m (page + 1) count pages → ArePages m page (suc count) (listed_page page o ++ pages)
shown_more m page count None pages low is rest = record { shown = weaker_pages (page + 1) page pages (omega arith) rest.shown; mapped = rest.mapped; few = (let few = rest.few in omega arith) }
shown_more m page count (Some bytes) pages low is rest = shown_by m page count bytes pages (is_page bytes) low is refl rest

pages_turn : (m : Memory) (page count : ℕ) → page + count ≤ page_number_end → ArePages m page count (page_texts_from m page count)
unfolding page_texts_from
pages_turn m page zero low = record { shown = tt; mapped = All-nil (IsMappedIn m); few = omega arith }
pages_turn m page (suc count) low = shown_more m page count (bytes_at m (4096 * page) 4096) (page_texts_from m (page + 1) count) (omega arith) refl (pages_turn m (page + 1) count (omega arith))

whole_turn : (m : Memory) → ArePages m 0 page_number_end (pages_of m)
whole_turn m = pages_turn m 0 page_number_end (omega arith)

pub pages_shown : (m : Memory) → AreShown 0 (pages_of m)
pages_shown m = (whole_turn m).shown

pub pages_mapped : (m : Memory) → All (IsMappedIn m) (pages_of m)
pages_mapped m = (whole_turn m).mapped

pub few_listed : (m : Memory) → length (pages_of m) < 2 ^ 32
few_listed m = let few = (whole_turn m).few in omega arith

-- ---- the memory of the runs has the same addresses

alike_by : (m : Memory) (q : ℕ) (b : Bool) → IsWhole m → is_mapped m (q / 4096) ≡ b → is_some (finite.get (zero_runs (runs_of m)) q) ≡ is_some (finite.get m q)
alike_by m q true whole e =
    let there : is_some (finite.get m q) ≡ true = whole.pages q (4096 * (q / 4096)) (omega arith) ∙ e in
    let low : q < address_end = low_of (finite.get m q) refl there in
    ap is_some (runs_in (is_mapped m) 0 page_number_end q (omega arith) (omega arith) e) ∙ sym there
  where
    low_of : (o : Option ℕ) → finite.get m q ≡ o → is_some o ≡ true → q < address_end
    low_of None is none = absurd cc
    low_of (Some byte) is some = whole.low q byte is
alike_by m q false whole e = ap is_some (runs_out (is_mapped m) 0 page_number_end q (inr (inr e))) ∙ sym (whole.pages q (4096 * (q / 4096)) (omega arith) ∙ e)

pub runs_alike : (m : Memory) → IsWhole m → Alike (mapped_runs finite.empty (runs_of m)) m
runs_alike m whole q = ap (λ (n : Memory). is_some (finite.get n q)) (sym (zero_runs_mapped (runs_of m))) ∙ alike_by m q (is_mapped m (q / 4096)) whole refl
