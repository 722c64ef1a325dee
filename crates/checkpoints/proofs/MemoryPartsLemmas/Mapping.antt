-- Runs are mapped one after the other.
use Rattle.std.proofs.Common.{◌≡◌, ℕ, suc, ◌+◌, ◌*◌, ◌/◌, ◌<◌, ◌≤◌, None, List, ◌∷◌, length, get_or, drop, sym, ap, subst, ◌∙◌, arith, drop-cons, add-one, inr}
use Rattle.std.specs.FinMap.{get}
use Rattle.std.proofs.lemmas.List.{drop_all}
use Rattle.paged_mem.specs.Memory.{Memory, IsFree, with_bytes, zeros}
use Rattle.save_format.specs.declared.state_text.parts.Run.{Run}
use Rattle.save_format.specs.StateText.StateText.{after_run}
use Rattle.checkpoints.specs.MemoryParts.Canonical.{mapped_runs, IsNextRun, ArePlaced}
use Rattle.checkpoints.proofs.MemoryPartsLemmas.Again.{zero_out}

-- the runs from an index on are to be mapped, after all that is mapped
pub record IsReady (m whole : Memory) (runs : List Run) (i least : ℕ) : Type 0 where
  pub placed : ArePlaced least (drop i runs)
  pub free : (a : ℕ) → least ≤ a / 4096 → get m a ≡ None
  pub rest : mapped_runs m (drop i runs) ≡ whole

abbrev pub no_run : Run
no_run = record { first = 0; pages = 0 }

next_of : (runs : List Run) (i : ℕ) (run : Run) → i < length runs → run ≡ get_or runs i no_run → drop i runs ≡ run ∷ drop (i + 1) runs
next_of runs i run lt is = let e = drop-cons runs i no_run lt in rw (add-one) (e ∙ ap (λ (r : Run). r ∷ drop (suc i) runs) (sym is))

pub budget : (m whole : Memory) (runs : List Run) (i least : ℕ) (run : Run) → i < length runs → run ≡ get_or runs i no_run → IsReady m whole runs i least → IsNextRun least run
budget m whole runs i least run lt is ready = (subst (ArePlaced least) (next_of runs i run lt is) ready.placed).0

pub is_free : (m whole : Memory) (runs : List Run) (i least : ℕ) (run : Run) → i < length runs → run ≡ get_or runs i no_run → IsReady m whole runs i least → IsFree m (4096 * run.first) (4096 * run.pages)
is_free m whole runs i least run lt is ready = let p = budget m whole runs i least run lt is ready in λ address from to. ready.free address (omega (arith, p.from))

pub map_step : (m whole : Memory) (runs : List Run) (i least : ℕ) (run : Run) → i < length runs → run ≡ get_or runs i no_run → IsReady m whole runs i least → IsReady (with_bytes m (4096 * run.first) (zeros (4096 * run.pages))) whole runs (i + 1) (after_run run)
unfolding mapped_runs
map_step m whole runs i least run lt is ready =
    let next = next_of runs i run lt is in
    let p = budget m whole runs i least run lt is ready in
    record {
      placed = (subst (ArePlaced least) next ready.placed).1;
      free = λ a from. zero_out m run.first run.pages a (inr (omega arith)) ∙ ready.free a (omega (arith, p.from));
      rest = ap (mapped_runs m) (sym next) ∙ ready.rest;
    }

pub map_stepped : (m new whole : Memory) (runs : List Run) (i least f p : ℕ) (run : Run) → i < length runs → run ≡ get_or runs i no_run → IsReady m whole runs i least → new ≡ with_bytes m (4096 * f) (zeros (4096 * p)) → f ≡ run.first → p ≡ run.pages → IsReady new whole runs (i + 1) (f + p + 1)
map_stepped m new whole runs i least f p run lt is ready new_is f_is p_is =
    let same : new ≡ with_bytes m (4096 * run.first) (zeros (4096 * run.pages)) = new_is ∙ (λ k. with_bytes m (4096 * f_is k) (zeros (4096 * p_is k))) in
    let at : after_run run ≡ f + p + 1 = λ k. sym f_is k + sym p_is k + 1 in
    subst (λ (n : ℕ). IsReady new whole runs (i + 1) n) at (subst (λ (v : Memory). IsReady v whole runs (i + 1) (after_run run)) (sym same) (map_step m whole runs i least run lt is ready))

pub all_mapped : (m whole : Memory) (runs : List Run) (i least : ℕ) → length runs ≤ i → IsReady m whole runs i least → m ≡ whole
unfolding mapped_runs
all_mapped m whole runs i least le ready = ap (mapped_runs m) (sym (drop_all i runs le)) ∙ ready.rest
