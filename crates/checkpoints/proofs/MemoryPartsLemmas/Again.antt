-- The runs and pages of a memory say that memory.
use Rattle.std.proofs.Common.{◌≡◌, ◌≢◌, ℕ, zero, suc, ◌+◌, ◌-◌, ◌*◌, ◌/◌, ◌^◌, ◌<◌, ◌≤◌, Bool, true, false, not, ◌&&◌, cond, eqb, ◌==◌, Option, None, Some, is_some, List, [], ◌∷◌, ◌++◌, length, get_or, refl, sym, ap, ◌∙◌, arith, ◌⊎◌, inl, inr}
use Rattle.std.specs.List.{list_all}
use Rattle.std.specs.Ordering.{nat_cmp}
use Rattle.std.specs.FinMap.{get, contains_key, empty, get-empty}
use Rattle.std.proofs.lemmas.Bool.{cases_eq, cases_lt, eqb-true}
use Rattle.ddc_base.specs.Limits.{page_number_end}
use Rattle.paged_mem.specs.Memory.{Memory, IsWhole, bytes_at, with_bytes, zeros}
use Rattle.paged_mem.specs.Inside.Wholeness.{get-with_bytes, get-with_bytes_below, get-with_bytes_above}
use Rattle.paged_mem.proofs.Maps.{same_memory, get_in_bytes_at, length_of_bytes_at, maps_by_each}
use Rattle.paged_mem.proofs.Mapped.{length-zeros}
use Rattle.paged_mem.proofs.MemoryLaws.{get-zeros, get-past}
use Rattle.save_format.specs.declared.state_text.parts.Run.{Run}
use Rattle.save_format.specs.StateText.StateText.{PageText, is_page}
use Rattle.checkpoints.specs.MemoryParts.Canonical.{is_mapped, with_page, runs_from, runs_of, listed_page, page_texts_from, pages_of, with_pages}
use Rattle.checkpoints.specs.MemoryParts.Inside.Zeros.{zero_runs, memory_from}

pub zero_in : (m : Memory) (first pages a : ℕ) → first ≤ a / 4096 → a / 4096 < first + pages → get (with_bytes m (4096 * first) (zeros (4096 * pages))) a ≡ Some 0
zero_in m first pages a from to = get-zeros m (4096 * first) (4096 * pages) a (omega arith) (omega arith)

pub zero_out : (m : Memory) (first pages a : ℕ) → (a / 4096 < first) ⊎ (first + pages ≤ a / 4096) → get (with_bytes m (4096 * first) (zeros (4096 * pages))) a ≡ get m a
zero_out m first pages a (inl below) = get-with_bytes_below m (4096 * first) (zeros (4096 * pages)) a (omega arith)
zero_out m first pages a (inr above) = get-with_bytes_above m (4096 * first) (zeros (4096 * pages)) a (omega (arith, length-zeros (4096 * pages)))

-- a mapped page in front of runs
page_in : (page : ℕ) (runs : List Run) (a : ℕ) → a / 4096 ≡ page → get (zero_runs (with_page page runs)) a ≡ Some 0
unfolding zero_runs
page_in page [] a is = zero_in empty page 1 a (omega arith) (omega arith)
page_in page (run ∷ runs) a is = both (eqb run.first (page + 1))
  where
    both : (b : Bool) → get (zero_runs (cond b (record { first = page; pages = run.pages + 1 } ∷ runs) (record { first = page; pages = 1 } ∷ (run ∷ runs)))) a ≡ Some 0
    both true = zero_in (zero_runs runs) page (run.pages + 1) a (omega arith) (omega arith)
    both false = zero_in (zero_runs (run ∷ runs)) page 1 a (omega arith) (omega arith)

page_out : (page : ℕ) (runs : List Run) (a : ℕ) → a / 4096 ≢ page → get (zero_runs (with_page page runs)) a ≡ get (zero_runs runs) a
unfolding zero_runs
page_out page [] a is = zero_out empty page 1 a (elim (cases_lt (a / 4096) page) [ inl lt ↦ inl lt | inr le ↦ inr (omega arith) ])
page_out page (run ∷ runs) a is = both (eqb run.first (page + 1)) refl
  where
    within : (n : ℕ) → n ≡ run.first → n ≡ page + 1 → (a / 4096 < n) ⊎ (n ≤ a / 4096) → (a / 4096 < n + run.pages) ⊎ (n + run.pages ≤ a / 4096) → get (with_bytes (zero_runs runs) (4096 * page) (zeros (4096 * (run.pages + 1)))) a ≡ get (with_bytes (zero_runs runs) (4096 * run.first) (zeros (4096 * run.pages))) a
    within n e f (inl lt) k = zero_out (zero_runs runs) page (run.pages + 1) a (inl (omega arith)) ∙ sym (zero_out (zero_runs runs) run.first run.pages a (inl (omega arith)))
    within n e f (inr le) (inl lt) = zero_in (zero_runs runs) page (run.pages + 1) a (omega arith) (omega arith) ∙ sym (zero_in (zero_runs runs) run.first run.pages a (omega arith) (omega arith))
    within n e f (inr le) (inr past) = zero_out (zero_runs runs) page (run.pages + 1) a (inr (omega arith)) ∙ sym (zero_out (zero_runs runs) run.first run.pages a (inr (omega arith)))

    both : (b : Bool) → eqb run.first (page + 1) ≡ b → get (zero_runs (cond b (record { first = page; pages = run.pages + 1 } ∷ runs) (record { first = page; pages = 1 } ∷ (run ∷ runs)))) a ≡ get (zero_runs (run ∷ runs)) a
    both true e = within run.first refl (eqb-true _ _ e) (cases_lt (a / 4096) run.first) (cases_lt (a / 4096) (run.first + run.pages))
    both false e = zero_out (zero_runs (run ∷ runs)) page 1 a (elim (cases_lt (a / 4096) page) [ inl lt ↦ inl lt | inr le ↦ inr (omega arith) ])

-- zero bytes exactly where a page is mapped
pub runs_in : (mapped : ℕ → Bool) (page count a : ℕ) → page ≤ a / 4096 → a / 4096 < page + count → mapped (a / 4096) ≡ true → get (zero_runs (runs_from mapped page count)) a ≡ Some 0
unfolding runs_from
runs_in mapped page zero a from to is = absurd (omega arith)
runs_in mapped page (suc count) a from to is = both (cases_eq (a / 4096) page) (λ ne. runs_in mapped (page + 1) count a (omega arith) (omega arith) is) (mapped page) refl
  where
    both : (a / 4096 ≡ page) ⊎ (a / 4096 ≢ page) → (a / 4096 ≢ page → get (zero_runs (runs_from mapped (page + 1) count)) a ≡ Some 0) → (b : Bool) → mapped page ≡ b → get (zero_runs (cond b (with_page page (runs_from mapped (page + 1) count)) (runs_from mapped (page + 1) count))) a ≡ Some 0
    both (inl e) later true was = page_in page (runs_from mapped (page + 1) count) a e
    both (inl e) later false was = let yes : mapped page ≡ true = ap mapped (sym e) ∙ is in absurd cc
    both (inr ne) later true was = page_out page (runs_from mapped (page + 1) count) a ne ∙ later ne
    both (inr ne) later false was = later ne

pub runs_out : (mapped : ℕ → Bool) (page count a : ℕ) → (a / 4096 < page) ⊎ ((page + count ≤ a / 4096) ⊎ (mapped (a / 4096) ≡ false)) → get (zero_runs (runs_from mapped page count)) a ≡ None
unfolding runs_from zero_runs
runs_out mapped page zero a out = get-empty nat_cmp a
runs_out mapped page (suc count) a out = both (cases_eq (a / 4096) page) (runs_out mapped (page + 1) count a (shift out)) (mapped page) refl
  where
    shift : (a / 4096 < page) ⊎ ((page + suc count ≤ a / 4096) ⊎ (mapped (a / 4096) ≡ false)) → (a / 4096 < page + 1) ⊎ ((page + 1 + count ≤ a / 4096) ⊎ (mapped (a / 4096) ≡ false))
    shift (inl lt) = inl (omega arith)
    shift (inr (inl past)) = inr (inl (omega arith))
    shift (inr (inr none)) = inr (inr none)

    off : (a / 4096 < page) ⊎ ((page + suc count ≤ a / 4096) ⊎ (mapped (a / 4096) ≡ false)) → a / 4096 ≡ page → mapped page ≡ true → ⊥
    off (inl lt) e was = omega arith
    off (inr (inl past)) e was = omega arith
    off (inr (inr none)) e was = let yes : mapped (a / 4096) ≡ true = ap mapped e ∙ was in cc

    both : (a / 4096 ≡ page) ⊎ (a / 4096 ≢ page) → get (zero_runs (runs_from mapped (page + 1) count)) a ≡ None → (b : Bool) → mapped page ≡ b → get (zero_runs (cond b (with_page page (runs_from mapped (page + 1) count)) (runs_from mapped (page + 1) count))) a ≡ None
    both (inl e) later true was = absurd (off out e was)
    both (inr ne) later true was = page_out page (runs_from mapped (page + 1) count) a ne ∙ later
    both which later false was = later

-- ---- pages over them

zero_each : (bytes : List ℕ) → list_all (λ b. b == 0) bytes ≡ true → (i : ℕ) → get_or bytes i 0 ≡ 0
zero_each [] e i = refl
zero_each (b ∷ bs) e i = both (zero_each bs) (eqb b 0) refl e i
  where
    both : (list_all (λ b. b == 0) bs ≡ true → (i : ℕ) → get_or bs i 0 ≡ 0) → (t : Bool) → eqb b 0 ≡ t → (t && list_all (λ b. b == 0) bs) ≡ true → (i : ℕ) → get_or (b ∷ bs) i 0 ≡ 0
    both later true was e zero = eqb-true _ _ was
    both later true was e (suc i) = later e i
    both later false was e i = absurd cc

page_elsewhere : (m0 : Memory) (page : ℕ) (o : Option (List ℕ)) (ps : List PageText) (a : ℕ) → ((bytes : List ℕ) → o ≡ Some bytes → length bytes ≡ 4096) → a / 4096 ≢ page → get (with_pages m0 (listed_page page o ++ ps)) a ≡ get (with_pages m0 ps) a
unfolding with_pages
page_elsewhere m0 page None ps a long ne = refl
page_elsewhere m0 page (Some bytes) ps a long ne = both (is_page bytes)
  where
    len : length bytes ≡ 4096
    len = long bytes refl

    both : (b : Bool) → get (with_pages m0 (cond b (record { number = page; bytes = bytes } ∷ []) [] ++ ps)) a ≡ get (with_pages m0 ps) a
    both true = elim (cases_lt (a / 4096) page) [
      | inl lt ↦ get-with_bytes_below (with_pages m0 ps) (4096 * page) bytes a (omega arith)
      | inr le ↦ get-with_bytes_above (with_pages m0 ps) (4096 * page) bytes a (omega (arith, len))
    ]
    both false = refl

page_here : (m0 m : Memory) (page : ℕ) (o : Option (List ℕ)) (ps : List PageText) (a : ℕ) → bytes_at m (4096 * page) 4096 ≡ o → a / 4096 ≡ page → get (with_pages m0 ps) a ≡ get m a ⊎ ((get (with_pages m0 ps) a ≡ Some 0) × (is_some o ≡ true)) → get (with_pages m0 (listed_page page o ++ ps)) a ≡ get m a
unfolding with_pages
page_here m0 m page None ps a at is (inl same) = same
page_here m0 m page None ps a at is (inr zero_there) = absurd (cc (zero_there.1))
page_here m0 m page (Some bytes) ps a at is which = both (is_page bytes) refl which
  where
    len : length bytes ≡ 4096
    len = length_of_bytes_at m (4096 * page) 4096 bytes at

    from_m : get m a ≡ Some (get_or bytes (a - 4096 * page) 0)
    from_m = get_in_bytes_at m (4096 * page) 4096 bytes at a (omega arith) (omega arith)

    all : (b : Bool) → not b ≡ false → b ≡ true
    all true e = refl
    all false e = absurd cc

    both : (b : Bool) → is_page bytes ≡ b → get (with_pages m0 ps) a ≡ get m a ⊎ ((get (with_pages m0 ps) a ≡ Some 0) × (is_some (Some bytes) ≡ true)) → get (with_pages m0 (cond b (record { number = page; bytes = bytes } ∷ []) [] ++ ps)) a ≡ get m a
    both true was w = get-with_bytes (with_pages m0 ps) (4096 * page) bytes a (omega arith) (omega (arith, len)) ∙ sym from_m
    both false was (inl same) = same
    both false was (inr z) = z.0 ∙ ap Some (sym (zero_each bytes (all (list_all (λ b. b == 0) bytes) was) (a - 4096 * page))) ∙ sym from_m

-- where the memory below agrees, so does the filled one
pub filled_same : (m0 m : Memory) (page count a : ℕ) → get m0 a ≡ get m a → get (with_pages m0 (page_texts_from m page count)) a ≡ get m a
unfolding page_texts_from with_pages
filled_same m0 m page zero a same = same
filled_same m0 m page (suc count) a same = both (cases_eq (a / 4096) page) (filled_same m0 m (page + 1) count a same)
  where
    both : (a / 4096 ≡ page) ⊎ (a / 4096 ≢ page) → get (with_pages m0 (page_texts_from m (page + 1) count)) a ≡ get m a → get (with_pages m0 (listed_page page (bytes_at m (4096 * page) 4096) ++ page_texts_from m (page + 1) count)) a ≡ get m a
    both (inl e) later = page_here m0 m page (bytes_at m (4096 * page) 4096) (page_texts_from m (page + 1) count) a refl e (inl later)
    both (inr ne) later = page_elsewhere m0 page (bytes_at m (4096 * page) 4096) (page_texts_from m (page + 1) count) a (length_of_bytes_at m (4096 * page) 4096) ne ∙ later

-- pages after an address leave it
filled_later : (m0 m : Memory) (page count a : ℕ) → a / 4096 < page → get (with_pages m0 (page_texts_from m page count)) a ≡ get m0 a
unfolding page_texts_from with_pages
filled_later m0 m page zero a lt = refl
filled_later m0 m page (suc count) a lt =
    page_elsewhere m0 page (bytes_at m (4096 * page) 4096) (page_texts_from m (page + 1) count) a (length_of_bytes_at m (4096 * page) 4096) (λ e. omega arith)
    ∙ filled_later m0 m (page + 1) count a (omega arith)

-- a mapped page that was zero becomes what it is
pub filled_in : (m0 m : Memory) (page count a : ℕ) → page ≤ a / 4096 → a / 4096 < page + count → get m0 a ≡ Some 0 → is_some (bytes_at m (4096 * (a / 4096)) 4096) ≡ true → get (with_pages m0 (page_texts_from m page count)) a ≡ get m a
unfolding page_texts_from with_pages
filled_in m0 m page zero a from to z full = absurd (omega arith)
filled_in m0 m page (suc count) a from to z full = both (cases_eq (a / 4096) page) (λ ne. filled_in m0 m (page + 1) count a (omega arith) (omega arith) z full)
  where
    both : (a / 4096 ≡ page) ⊎ (a / 4096 ≢ page) → (a / 4096 ≢ page → get (with_pages m0 (page_texts_from m (page + 1) count)) a ≡ get m a) → get (with_pages m0 (listed_page page (bytes_at m (4096 * page) 4096) ++ page_texts_from m (page + 1) count)) a ≡ get m a
    both (inl e) later = page_here m0 m page (bytes_at m (4096 * page) 4096) (page_texts_from m (page + 1) count) a refl e (inr (filled_later m0 m (page + 1) count a (omega arith) ∙ z, ap (λ (n : ℕ). is_some (bytes_at m (4096 * n) 4096)) (sym e) ∙ full))
    both (inr ne) later = page_elsewhere m0 page (bytes_at m (4096 * page) 4096) (page_texts_from m (page + 1) count) a (length_of_bytes_at m (4096 * page) 4096) ne ∙ later ne

-- what a memory's runs and pages say is that memory
pub same_again : (m : Memory) → IsWhole m → memory_from (runs_of m) (pages_of m) ≡ m
same_again m whole = same_memory (memory_from (runs_of m) (pages_of m)) m (λ a. each a (cases_lt (a / 4096) page_number_end) (contains_key m a) refl)
  where
    some : (a : ℕ) → contains_key m a ≡ true → (q : ℕ) → 4096 * (a / 4096) ≤ q → q < 4096 * (a / 4096) + 4096 → is_some (get m q) ≡ true
    some a is q from to = whole.pages q a (omega arith) ∙ is

    gone : (a : ℕ) → is_some (get m a) ≡ false → get m a ≡ None
    gone a e = none_of (get m a) e
      where
        none_of : (o : Option ℕ) → is_some o ≡ false → o ≡ None
        none_of None e = refl
        none_of (Some x) e = absurd cc

    each : (a : ℕ) → (a / 4096 < page_number_end) ⊎ (page_number_end ≤ a / 4096) → (b : Bool) → contains_key m a ≡ b → get (memory_from (runs_of m) (pages_of m)) a ≡ get m a
    each a (inl low) true is =
        filled_in (zero_runs (runs_of m)) m 0 page_number_end a (omega arith) (omega arith)
        (runs_in (is_mapped m) 0 page_number_end a (omega arith) (omega arith) (whole.pages (4096 * (a / 4096)) a (omega arith) ∙ is))
        (maps_by_each m (4096 * (a / 4096)) 4096 (some a is))
    each a (inl low) false is = filled_same (zero_runs (runs_of m)) m 0 page_number_end a (runs_out (is_mapped m) 0 page_number_end a (inr (inr (whole.pages (4096 * (a / 4096)) a (omega arith) ∙ is))) ∙ sym (gone a is))
    each a (inr high) b is = filled_same (zero_runs (runs_of m)) m 0 page_number_end a (runs_out (is_mapped m) 0 page_number_end a (inr (inl (omega arith))) ∙ sym (get-past m whole a (omega arith)))
