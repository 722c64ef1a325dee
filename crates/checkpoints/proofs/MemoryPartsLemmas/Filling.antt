-- Pages that do not overlap may be written in any order.
use Rattle.std.proofs.Common.{◌≡◌, ℕ, ◌+◌, ◌*◌, ◌<◌, ◌≤◌, List, [], ◌∷◌, length, map, ◌++◌, get_or, reverse, take, refl, sym, ap, ◌∙◌, ◌⊎◌, arith, inl, inr, take_all}
use Rattle.std.specs.FinMap.{get}
use Rattle.std.proofs.lemmas.Bool.{cases_lt}
use Rattle.std.proofs.lemmas.Grind.{reverse_onto}
use Rattle.std.proofs.lemmas.List.{map-append, take_more}
use Rattle.paged_mem.specs.Memory.{Memory, with_bytes}
use Rattle.paged_mem.specs.Inside.Wholeness.{get-with_bytes, get-with_bytes_below, get-with_bytes_above}
use Rattle.paged_mem.proofs.Maps.{same_memory}
use Rattle.save_format.specs.declared.state_text.parts.Page.{Page}
use Rattle.save_format.specs.StateText.StateText.{PageText, after_page}
use Rattle.save_format.specs.StateText.Seen.{page_view}
use Rattle.checkpoints.specs.MemoryParts.Canonical.{with_pages, AreShown}

-- pages written in their order
unfoldable pub filled_on : Memory → List PageText → Memory
filled_on m [] = m
filled_on m (page ∷ pages) = filled_on (with_bytes m (4096 * page.number) page.bytes) pages

filled_first : (m : Memory) (pages : List PageText) (page : PageText) → with_pages m (pages ++ page ∷ []) ≡ with_pages (with_bytes m (4096 * page.number) page.bytes) pages
unfolding with_pages
filled_first m [] page = refl
filled_first m (p ∷ ps) page = ap (λ (v : Memory). with_bytes v (4096 * p.number) p.bytes) (filled_first m ps page)

-- that is to fill in the pages turned round
pub turned : (m : Memory) (pages : List PageText) → filled_on m pages ≡ with_pages m (reverse pages)
unfolding with_pages filled_on
turned m [] = refl
turned m (page ∷ pages) =
    turned (with_bytes m (4096 * page.number) page.bytes) pages ∙ sym (ap (with_pages m) (reverse_onto pages page []) ∙ filled_first m (reverse pages) page)

-- bytes at two places, one after the other
swapped : (m : Memory) (low high : ℕ) (xs ys : List ℕ) → low + length xs ≤ high → with_bytes (with_bytes m low xs) high ys ≡ with_bytes (with_bytes m high ys) low xs
swapped m low high xs ys apart = same_memory _ _ (λ a. each a (cases_lt a low) (cases_lt a (low + length xs)) (cases_lt a high) (cases_lt a (high + length ys)))
  where
    each : (a : ℕ) → (a < low) ⊎ (low ≤ a) → (a < low + length xs) ⊎ (low + length xs ≤ a) → (a < high) ⊎ (high ≤ a) → (a < high + length ys) ⊎ (high + length ys ≤ a) → get (with_bytes (with_bytes m low xs) high ys) a ≡ get (with_bytes (with_bytes m high ys) low xs) a
    each a (inl p) q r s = get-with_bytes_below (with_bytes m low xs) high ys a (omega arith) ∙ get-with_bytes_below m low xs a p ∙ sym (get-with_bytes_below (with_bytes m high ys) low xs a p ∙ get-with_bytes_below m high ys a (omega arith))
    each a (inr p) (inl q) r s = get-with_bytes_below (with_bytes m low xs) high ys a (omega arith) ∙ get-with_bytes m low xs a p q ∙ sym (get-with_bytes (with_bytes m high ys) low xs a p q)
    each a (inr p) (inr q) (inl r) s = get-with_bytes_below (with_bytes m low xs) high ys a r ∙ get-with_bytes_above m low xs a q ∙ sym (get-with_bytes_above (with_bytes m high ys) low xs a q ∙ get-with_bytes_below m high ys a r)
    each a (inr p) (inr q) (inr r) (inl s) = get-with_bytes (with_bytes m low xs) high ys a r s ∙ sym (get-with_bytes_above (with_bytes m high ys) low xs a q ∙ get-with_bytes m high ys a r s)
    each a (inr p) (inr q) (inr r) (inr s) = get-with_bytes_above (with_bytes m low xs) high ys a s ∙ get-with_bytes_above m low xs a q ∙ sym (get-with_bytes_above (with_bytes m high ys) low xs a q ∙ get-with_bytes_above m high ys a s)

first_last : (m : Memory) (pages : List PageText) (least low : ℕ) (xs : List ℕ) → AreShown least pages → low + length xs ≤ 4096 * least → with_pages (with_bytes m low xs) pages ≡ with_bytes (with_pages m pages) low xs
unfolding with_pages
first_last m [] least low xs shown le = refl
first_last m (p ∷ ps) least low xs shown le =
    let from : least ≤ p.number = shown.0.from in
    ap (λ (v : Memory). with_bytes v (4096 * p.number) p.bytes) (first_last m ps (after_page p) low xs shown.1 (omega arith))
    ∙ swapped (with_pages m ps) low (4096 * p.number) xs p.bytes (omega arith)

pub any_order : (m : Memory) (pages : List PageText) (least : ℕ) → AreShown least pages → filled_on m pages ≡ with_pages m pages
unfolding with_pages filled_on
any_order m [] least shown = refl
any_order m (p ∷ ps) least shown =
    let full : length p.bytes ≡ 4096 = shown.0.full in
    any_order (with_bytes m (4096 * p.number) p.bytes) ps (after_page p) shown.1 ∙ first_last m ps (after_page p) (4096 * p.number) p.bytes shown.1 (omega arith)

-- one page more is written last
filled_push : (m : Memory) (pages : List PageText) (page : PageText) → filled_on m (pages ++ page ∷ []) ≡ with_bytes (filled_on m pages) (4096 * page.number) page.bytes
unfolding filled_on
filled_push m [] page = refl
filled_push m (p ∷ ps) page = filled_push (with_bytes m (4096 * p.number) p.bytes) ps page

pub fill_step : (old m new : Memory) (pages : List Page) (i number : ℕ) (other page : Page) → i < length pages → get_or pages i other ≡ page → number ≡ page.number
    → m ≡ filled_on old (map page_view (take i pages)) → new ≡ with_bytes m (4096 * number) page.bytes.now → new ≡ filled_on old (map page_view (take (i + 1) pages))
fill_step old m new pages i number other page lt is same so_far new_is =
    let more : take (i + 1) pages ≡ take i pages ++ page ∷ [] = take_more pages i other lt ∙ ap (λ (p : Page). take i pages ++ p ∷ []) is in
    new_is ∙ ap (λ (n : ℕ). with_bytes m (4096 * n) page.bytes.now) same ∙ ap (λ (v : Memory). with_bytes v (4096 * page.number) page.bytes.now) so_far
    ∙ sym (ap (λ (ps : List Page). filled_on old (map page_view ps)) more ∙ ap (filled_on old) (map-append page_view (take i pages) (page ∷ [])) ∙ filled_push old (map page_view (take i pages)) (page_view page))

pub all_filled : (old m : Memory) (pages : List Page) (i : ℕ) → length pages ≤ i → m ≡ filled_on old (map page_view (take i pages)) → m ≡ filled_on old (map page_view pages)
all_filled old m pages i le so_far = so_far ∙ ap (λ (ps : List Page). filled_on old (map page_view ps)) (take_all i pages le)
