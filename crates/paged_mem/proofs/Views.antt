-- The memory of sound pages: that it is whole, what a span reads, and what writing over a span changes.
use Rattle.std.proofs.Common.{◌≡◌, ℕ, ◌+◌, ◌-◌, ◌*◌, ◌/◌, ◌%◌, ◌<◌, ◌≤◌, Option, None, Some, is_some, List, length, get_or, take, drop, refl, sym, ap, ◌∙◌, arith, rules, ◌⊎◌, inl, inr, length-drop, length-take}
use Rattle.std.specs.Option.{option_map}
use Rattle.std.specs.FinMap.{get}
use Rattle.std.proofs.lemmas.Bool.{cases_lt}
use Rattle.std.proofs.lemmas.Option.{none-some, same_Some}
use Rattle.std.proofs.lemmas.List.{get_or-take, get_or-drop, places}
use Rattle.paged_mem.specs.Memory.{bytes_at, maps, with_bytes}
use Rattle.paged_mem.specs.Inside.Flat.{memory_of, page_index, slot, Spans, overwritten}
use Rattle.paged_mem.proofs.Maps.{same_memory, bytes_at-found, bytes_at-none}
use Rattle.paged_mem.specs.Inside.Wholeness.{page_index-some, get-memory_of, get-with_bytes, get-with_bytes_below, get-with_bytes_above}

-- the address whose byte stands at an index
address_of_slot : (pages : List ℕ) (at s : ℕ) → slot pages at ≡ Some s → at ≡ 4096 * get_or pages (s / 4096) 0 + s % 4096
address_of_slot pages at s e = by_index (page_index pages (at / 4096)) refl e
  where
    by_index : (o : Option ℕ) → page_index pages (at / 4096) ≡ o → option_map (λ i. 4096 * i + at % 4096) o ≡ Some s → at ≡ 4096 * get_or pages (s / 4096) 0 + s % 4096
    by_index None was e = absurd (none-some s e)
    by_index (Some i) was e =
        let is : 4096 * i + at % 4096 ≡ s = same_Some _ _ e in
        let number = page_index-some pages (at / 4096) i was in
        let at_i : get_or pages (s / 4096) 0 ≡ get_or pages i 0 = ap (λ k. get_or pages k 0) (omega arith) in
        omega (arith, number.1)

-- the bytes of a span stand in a row
pub bytes_at-span : (pages bytes : List ℕ) → length bytes ≡ 4096 * length pages → (at count start : ℕ) → Spans pages at count (Some start) → bytes_at (memory_of pages bytes) at count ≡ Some (take count (drop start bytes))
bytes_at-span pages bytes full at count start span =
    let long : length (take count (drop start bytes)) ≡ count = omega (arith, length-take count (drop start bytes), length-drop start bytes, span.0) in
    ap (bytes_at (memory_of pages bytes) at) (sym long) ∙ bytes_at-found (memory_of pages bytes) at (take count (drop start bytes)) (λ q from to. here q from (omega arith))
  where
    here : (q : ℕ) → at ≤ q → q < at + count → get (memory_of pages bytes) q ≡ Some (get_or (take count (drop start bytes)) (q - at) 0)
    here q from to =
        let is : at + (q - at) ≡ q = omega arith in
        get-memory_of pages bytes q full
        ∙ ap (option_map (λ s. get_or bytes s 0)) (ap (slot pages) (sym is) ∙ span.1 (q - at) (omega arith))
        ∙ ap Some (sym (get_or-take count (drop start bytes) (q - at) 0 (omega arith) ∙ get_or-drop start bytes (q - at) 0))

pub bytes_at-no_span : (pages bytes : List ℕ) → length bytes ≡ 4096 * length pages → (at count : ℕ) → Spans pages at count None → bytes_at (memory_of pages bytes) at count ≡ None
bytes_at-no_span pages bytes full at count span =
    bytes_at-none (memory_of pages bytes) at count (at + span.0) (omega arith) (omega (arith, span.1))
    (get-memory_of pages bytes (at + span.0) full ∙ ap (option_map (λ s. get_or bytes s 0)) span.2)

pub maps-span : (pages bytes : List ℕ) → length bytes ≡ 4096 * length pages → (at count : ℕ) (o : Option ℕ) → Spans pages at count o → maps (memory_of pages bytes) at count ≡ is_some o
maps-span pages bytes full at count None span = ap is_some (bytes_at-no_span pages bytes full at count span)
maps-span pages bytes full at count (Some start) span = ap is_some (bytes_at-span pages bytes full at count start span)

-- a list written over, within the new elements and elsewhere
pub get_or-overwritten : (bytes : List ℕ) (start : ℕ) (source : List ℕ) (i : ℕ) → start + length source ≤ length bytes → start ≤ i → i < start + length source → get_or (overwritten bytes start source) i 0 ≡ get_or source (i - start) 0
get_or-overwritten bytes start source i within from to = search (rules, places)

pub get_or-overwritten_other : (bytes : List ℕ) (start : ℕ) (source : List ℕ) (i : ℕ) → start + length source ≤ length bytes → (i < start) ⊎ (start + length source ≤ i) → get_or (overwritten bytes start source) i 0 ≡ get_or bytes i 0
get_or-overwritten_other bytes start source i within (inl below) = search (rules, places)
get_or-overwritten_other bytes start source i within (inr above) = search (rules, places)

pub length-overwritten : (bytes : List ℕ) (start : ℕ) (source : List ℕ) → start + length source ≤ length bytes → length (overwritten bytes start source) ≡ length bytes
length-overwritten bytes start source within = search (rules, places)

-- bytes that are written over bytes leave bytes
pub small-overwritten : (bytes : List ℕ) (start : ℕ) (source : List ℕ) → start + length source ≤ length bytes → ((i : ℕ) → get_or bytes i 0 < 256) → ((i : ℕ) → get_or source i 0 < 256) → (i : ℕ) → get_or (overwritten bytes start source) i 0 < 256
small-overwritten bytes start source within old new i = page_index (cases_lt i start) (cases_lt i (start + length source))
  where
    page_index : (i < start) ⊎ (start ≤ i) → (i < start + length source) ⊎ (start + length source ≤ i) → get_or (overwritten bytes start source) i 0 < 256
    page_index (inl below) _ = omega (arith, get_or-overwritten_other bytes start source i within (inl below), old i)
    page_index (inr from) (inl to) = omega (arith, get_or-overwritten bytes start source i within from to, new (i - start))
    page_index (inr from) (inr above) = omega (arith, get_or-overwritten_other bytes start source i within (inr above), old i)

-- to write over a span is to write from its first address on
pub memory_of-overwritten : (pages bytes : List ℕ) → length bytes ≡ 4096 * length pages → (at start : ℕ) (source : List ℕ) → Spans pages at (length source) (Some start) → memory_of pages (overwritten bytes start source) ≡ with_bytes (memory_of pages bytes) at source
memory_of-overwritten pages bytes full at start source span =
    same_memory (memory_of pages (overwritten bytes start source)) (with_bytes (memory_of pages bytes) at source) (λ q. get-memory_of pages (overwritten bytes start source) q (length-overwritten bytes start source (omega (arith, span.0)) ∙ full) ∙ same q (cases_lt q at) (cases_lt q (at + length source)))
  where
    outside : (q : ℕ) → (q < at) ⊎ (at + length source ≤ q) → option_map (λ s. get_or (overwritten bytes start source) s 0) (slot pages q) ≡ get (memory_of pages bytes) q
    outside q out = by_slot (slot pages q) refl ∙ sym (get-memory_of pages bytes q full)
      where
        by_slot : (o : Option ℕ) → slot pages q ≡ o → option_map (λ s. get_or (overwritten bytes start source) s 0) o ≡ option_map (λ s. get_or bytes s 0) (slot pages q)
        by_slot None was = ap (option_map (λ s. get_or bytes s 0)) (sym was)
        by_slot (Some s) was =
            ap Some (get_or-overwritten_other bytes start source s (omega (arith, span.0)) (apart (cases_lt s start) (cases_lt s (start + length source)))) ∙ ap (option_map (λ s. get_or bytes s 0)) (sym was)
          where
            apart : (s < start) ⊎ (start ≤ s) → (s < start + length source) ⊎ (start + length source ≤ s) → (s < start) ⊎ (start + length source ≤ s)
            apart (inl below) o = inl below
            apart (inr from) (inr above) = inr above
            apart (inr from) (inl to) =
                let at_s = span.1 (s - start) (omega arith) in
                let mine = address_of_slot pages (at + (s - start)) (start + (s - start)) at_s in
                let theirs = address_of_slot pages q s was in
                let same_s : get_or pages ((start + (s - start)) / 4096) 0 ≡ get_or pages (s / 4096) 0 = ap (λ k. get_or pages (k / 4096) 0) (omega arith) in
                absurd (clash out (omega arith))
              where
                clash : (q < at) ⊎ (at + length source ≤ q) → q ≡ at + (s - start) → ⊥
                clash (inl below) e = omega arith
                clash (inr above) e = omega arith

    same : (q : ℕ) → (q < at) ⊎ (at ≤ q) → (q < at + length source) ⊎ (at + length source ≤ q) → option_map (λ s. get_or (overwritten bytes start source) s 0) (slot pages q) ≡ get (with_bytes (memory_of pages bytes) at source) q
    same q (inl below) o = outside q (inl below) ∙ sym (get-with_bytes_below (memory_of pages bytes) at source q below)
    same q (inr from) (inr above) = outside q (inr above) ∙ sym (get-with_bytes_above (memory_of pages bytes) at source q above)
    same q (inr from) (inl to) =
        let is : at + (q - at) ≡ q = omega arith in
        ap (option_map (λ s. get_or (overwritten bytes start source) s 0)) (ap (slot pages) (sym is) ∙ span.1 (q - at) (omega arith))
        ∙ ap Some (get_or-overwritten bytes start source (start + (q - at)) (omega (arith, span.0)) (omega arith) (omega arith) ∙ ap (λ k. get_or source k 0) (omega arith))
        ∙ sym (get-with_bytes (memory_of pages bytes) at source q from to)
