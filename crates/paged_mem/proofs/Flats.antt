-- The bytes of entries, one page after the other, and which entries hold bytes.
use Rattle.std.proofs.Common.{◌≡◌, ℕ, zero, suc, ◌+◌, ◌-◌, ◌*◌, ◌/◌, ◌%◌, ◌<◌, ◌≤◌, None, Some, is_some, IsSome, if◌then◌else◌, Bool, true, false, List, [], ◌∷◌, ◌++◌, length, get_or, take, drop, replicate, refl, sym, ap, ◌∙◌, arith, rules, ◌⊎◌, inl, inr, length-append, length-take, length-drop, append_assoc}
use Rattle.std.proofs.Math.ListN.{set}
use Rattle.std.proofs.lemmas.Bool.{cases_lt}
use Rattle.std.proofs.lemmas.Grind.{same_number_lists}
use Rattle.std.proofs.lemmas.List.{places, length-replicate, get_or-replicate, get_or_past, get_or_append_left, get_or-append-add, get_or-take, get_or-drop, get_or_default, take-append-drop, take_at, drop_at, drop-drop}
use borrow.Rule.Slice.PartMut.{put_mid}
use Rattle.paged_mem.specs.Memory.{zeros}
use Rattle.paged_mem.specs.Inside.Flat.{overwritten, number_at}
use Rattle.paged_mem.specs.Inside.Entries.{Entry, AreFull, ArePages, page_content, flat, held_pages}
use Rattle.paged_mem.proofs.Mapped.{length-zeros}
use Rattle.paged_mem.proofs.Views.{get_or-overwritten, get_or-overwritten_other, length-overwritten}

-- an element of zeros, also past their end
pub get_or-all_zeros : (count i : ℕ) → ◌≡◌ {A = ℕ} (get_or (zeros count) i 0) 0
unfolding zeros
get_or-all_zeros count i = by_order (cases_lt i count) where
  by_order : (i < count) ⊎ (count ≤ i) → ◌≡◌ {A = ℕ} (get_or (replicate count 0) i 0) 0
  by_order (inl below) = get_or-replicate {A = ℕ} count i 0 0 below
  by_order (inr past) = get_or_past {X = ℕ} (replicate count 0) i 0 (omega (arith, length-replicate {A = ℕ} count 0))

-- a number of zeros is zero
pub number_at-zeros : (count start size : ℕ) → number_at (zeros count) start size ≡ 0
number_at-zeros count start zero = refl
number_at-zeros count start (suc size) = omega (arith, get_or-all_zeros count start, number_at-zeros count (1 + start) size)

AreFull-tail : (entry : Entry) (entries : List Entry) → AreFull (entry ∷ entries) → AreFull entries
AreFull-tail entry entries full i = full (suc i)

pub length-flat : (entries : List Entry) → AreFull entries → length (flat entries) ≡ 4096 * length entries
unfolding flat
length-flat [] full = refl
length-flat (entry ∷ entries) full =
    let first : length (page_content entry) ≡ 4096 = full 0 in
    omega (arith, length-append (page_content entry) (flat entries), first, length-flat entries (AreFull-tail entry entries full))

pub get-flat : (entries : List Entry) → AreFull entries → (i k : ℕ) → i < length entries → k < 4096
    → get_or (flat entries) (4096 * i + k) 0 ≡ get_or (page_content (get_or entries i None)) k 0
unfolding flat
get-flat [] full i k within below = absurd (omega arith)
get-flat (entry ∷ entries) full zero k within below =
    let first : length (page_content entry) ≡ 4096 = full 0 in
    get_or_append_left (page_content entry) (flat entries) 0 (4096 * 0 + k) (omega arith) ∙ ap (λ n. get_or (page_content entry) n 0) (omega arith)
get-flat (entry ∷ entries) full (suc i) k within below =
    let first : length (page_content entry) ≡ 4096 = full 0 in
    ap (λ n. get_or (page_content entry ++ flat entries) n 0) (let at : 4096 * suc i + k ≡ length (page_content entry) + (4096 * i + k) = omega arith in at)
    ∙ get_or-append-add (page_content entry) (flat entries) (4096 * i + k) 0
    ∙ get-flat entries (AreFull-tail entry entries full) i k (omega arith) below

-- ---- one entry written

-- a list is another one written over where it has the source's elements there and the old ones elsewhere
is_overwritten : (bytes new : List ℕ) (start : ℕ) (source : List ℕ) → start + length source ≤ length bytes → length new ≡ length bytes
    → ((k : ℕ) → start ≤ k → k < start + length source → get_or new k 0 ≡ get_or source (k - start) 0)
    → ((k : ℕ) → k < length bytes → (k < start) ⊎ (start + length source ≤ k) → get_or new k 0 ≡ get_or bytes k 0)
    → new ≡ overwritten bytes start source
is_overwritten bytes new start source within long inside outside =
    same_number_lists new (overwritten bytes start source) (long ∙ sym (length-overwritten bytes start source within))
    (λ k below. by_order k (omega arith) (cases_lt k start) (cases_lt k (start + length source)))
  where
    by_order : (k : ℕ) → k < length bytes → (k < start) ⊎ (start ≤ k) → (k < start + length source) ⊎ (start + length source ≤ k)
        → get_or new k 0 ≡ get_or (overwritten bytes start source) k 0
    by_order k below (inl before) _ = outside k below (inl before) ∙ sym (get_or-overwritten_other bytes start source k within (inl before))
    by_order k below (inr from) (inr past) = outside k below (inr past) ∙ sym (get_or-overwritten_other bytes start source k within (inr past))
    by_order k below (inr from) (inl to) = inside k from to ∙ sym (get_or-overwritten bytes start source k within from to)

get_right : (xs ys : List ℕ) (k : ℕ) → length xs ≤ k → get_or (xs ++ ys) k 0 ≡ get_or ys (k - length xs) 0
get_right xs ys k from = ap (λ n. get_or (xs ++ ys) n 0) (let at : k ≡ length xs + (k - length xs) = omega arith in at) ∙ get_or-append-add xs ys (k - length xs) 0

overwritten-left : (xs ys : List ℕ) (start : ℕ) (source : List ℕ) → start + length source ≤ length xs
    → overwritten (xs ++ ys) start source ≡ overwritten xs start source ++ ys
overwritten-left xs ys start source within =
    let long = length-overwritten xs start source within in
    let both = length-append xs ys in
    sym (is_overwritten (xs ++ ys) (overwritten xs start source ++ ys) start source (omega arith)
    (omega (arith, length-append (overwritten xs start source) ys))
    (λ k from to. get_or_append_left (overwritten xs start source) ys 0 k (omega arith) ∙ get_or-overwritten xs start source k within from to)
    (λ k below out. by_order k out (cases_lt k (length xs))))
  where
    by_order : (k : ℕ) → (k < start) ⊎ (start + length source ≤ k) → (k < length xs) ⊎ (length xs ≤ k) → get_or (overwritten xs start source ++ ys) k 0 ≡ get_or (xs ++ ys) k 0
    by_order k out (inl before) =
        let long = length-overwritten xs start source within in
        get_or_append_left (overwritten xs start source) ys 0 k (omega arith)
        ∙ get_or-overwritten_other xs start source k within out
        ∙ sym (get_or_append_left xs ys 0 k before)
    by_order k out (inr past) =
        let long = length-overwritten xs start source within in
        get_right (overwritten xs start source) ys k (omega arith)
        ∙ ap (λ n. get_or ys (k - n) 0) long
        ∙ sym (get_right xs ys k past)

overwritten-right : (xs ys : List ℕ) (at start : ℕ) (source : List ℕ) → at ≡ length xs + start → start + length source ≤ length ys
    → overwritten (xs ++ ys) at source ≡ xs ++ overwritten ys start source
overwritten-right xs ys at start source is within =
    let long = length-overwritten ys start source within in
    let both = length-append xs ys in
    sym (is_overwritten (xs ++ ys) (xs ++ overwritten ys start source) at source (omega arith)
    (omega (arith, length-append xs (overwritten ys start source)))
    (λ k from to.
    get_right xs (overwritten ys start source) k (omega arith)
    ∙ get_or-overwritten ys start source (k - length xs) within (omega arith) (omega arith)
    ∙ ap (λ n. get_or source n 0) (omega arith))
    (λ k below out. by_order k out (cases_lt k (length xs))))
  where
    moved : (k : ℕ) → length xs ≤ k → (k < at) ⊎ (at + length source ≤ k) → (k - length xs < start) ⊎ (start + length source ≤ k - length xs)
    moved k past (inl before) = inl (omega arith)
    moved k past (inr after) = inr (omega arith)

    by_order : (k : ℕ) → (k < at) ⊎ (at + length source ≤ k) → (k < length xs) ⊎ (length xs ≤ k) → get_or (xs ++ overwritten ys start source) k 0 ≡ get_or (xs ++ ys) k 0
    by_order k out (inl before) = get_or_append_left xs (overwritten ys start source) 0 k before ∙ sym (get_or_append_left xs ys 0 k before)
    by_order k out (inr past) =
        get_right xs (overwritten ys start source) k past
        ∙ get_or-overwritten_other ys start source (k - length xs) within (moved k past out)
        ∙ sym (get_right xs ys k past)

pub flat-set : (entries : List Entry) (i low : ℕ) (source : List ℕ) (entry : Entry) → AreFull entries → i < length entries
    → low + length source ≤ 4096 → page_content entry ≡ overwritten (page_content (get_or entries i None)) low source
    → flat (set entries i entry) ≡ overwritten (flat entries) (4096 * i + low) source
unfolding flat
flat-set [] i low source entry full within fits is = absurd (omega arith)
flat-set (first ∷ entries) zero low source entry full within fits is =
    let long : length (page_content first) ≡ 4096 = full 0 in
    let at : low ≡ 4096 * 0 + low = omega arith in
    ap (λ xs. xs ++ flat entries) is ∙ sym (overwritten-left (page_content first) (flat entries) low source (omega arith))
    ∙ ap (λ n. overwritten (page_content first ++ flat entries) n source) at
flat-set (first ∷ entries) (suc i) low source entry full within fits is =
    let long : length (page_content first) ≡ 4096 = full 0 in
    let rest = AreFull-tail first entries full in
    ap (λ xs. page_content first ++ xs) (flat-set entries i low source entry rest (omega arith) fits is)
    ∙ sym (overwritten-right (page_content first) (flat entries) (4096 * suc i + low) (4096 * i + low) source (omega arith) (omega (arith, length-flat entries rest)))

-- an entry put in the place of one with the same bytes
pub flat-set_same : (entries : List Entry) (i : ℕ) (entry : Entry) → page_content entry ≡ page_content (get_or entries i None)
    → flat (set entries i entry) ≡ flat entries
unfolding flat
flat-set_same [] i entry is = refl
flat-set_same (first ∷ entries) zero entry is = ap (λ xs. xs ++ flat entries) is
flat-set_same (first ∷ entries) (suc i) entry is = ap (λ xs. page_content first ++ xs) (flat-set_same entries i entry is)

pub AreFull-set : (entries : List Entry) (i : ℕ) (entry : Entry) → AreFull entries → length (page_content entry) ≡ 4096 → AreFull (set entries i entry)
AreFull-set [] i entry full long k = full k
AreFull-set (first ∷ entries) zero entry full long zero = long
AreFull-set (first ∷ entries) zero entry full long (suc k) = full (suc k)
AreFull-set (first ∷ entries) (suc i) entry full long zero = full 0
AreFull-set (first ∷ entries) (suc i) entry full long (suc k) = AreFull-set entries i entry (AreFull-tail first entries full) long k

-- one piece after another
pub overwritten-more : (bytes : List ℕ) (start done count : ℕ) (source : List ℕ) → done + count ≤ length source → start + length source ≤ length bytes
    → overwritten (overwritten bytes start (take done source)) (start + done) (take count (drop done source)) ≡ overwritten bytes start (take (done + count) source)
overwritten-more bytes start done count source within fits =
    let first = length-take done source in
    let rest = length-drop done source in
    let piece = length-take count (drop done source) in
    let both = length-take (done + count) source in
    let long = length-overwritten bytes start (take done source) (omega arith) in
    is_overwritten bytes _ start (take (done + count) source) (omega arith)
    (length-overwritten (overwritten bytes start (take done source)) (start + done) (take count (drop done source)) (omega arith) ∙ long)
    (λ k from to. inside k from (omega arith) (cases_lt k (start + done)))
    (λ k below out. outside k out)
  where
    outer : (k : ℕ) → (k < start + done) ⊎ (start + done + count ≤ k)
        → get_or (overwritten (overwritten bytes start (take done source)) (start + done) (take count (drop done source))) k 0 ≡ get_or (overwritten bytes start (take done source)) k 0
    outer k out =
        let first = length-take done source in
        let rest = length-drop done source in
        let piece = length-take count (drop done source) in
        let long = length-overwritten bytes start (take done source) (omega arith) in
        get_or-overwritten_other (overwritten bytes start (take done source)) (start + done) (take count (drop done source)) k (omega arith) (moved out (omega arith))
      where
        moved : (k < start + done) ⊎ (start + done + count ≤ k) → length (take count (drop done source)) ≡ count → (k < start + done) ⊎ (start + done + length (take count (drop done source)) ≤ k)
        moved (inl before) is = inl before
        moved (inr after) is = inr (omega arith)

    inside : (k : ℕ) → start ≤ k → k < start + (done + count) → (k < start + done) ⊎ (start + done ≤ k)
        → get_or (overwritten (overwritten bytes start (take done source)) (start + done) (take count (drop done source))) k 0 ≡ get_or (take (done + count) source) (k - start) 0
    inside k from to (inl before) =
        let first = length-take done source in
        outer k (inl before)
        ∙ get_or-overwritten bytes start (take done source) k (omega arith) from (omega arith)
        ∙ get_or-take done source (k - start) 0 (omega arith)
        ∙ sym (get_or-take (done + count) source (k - start) 0 (omega arith))
    inside k from to (inr after) =
        let first = length-take done source in
        let rest = length-drop done source in
        let piece = length-take count (drop done source) in
        let long = length-overwritten bytes start (take done source) (omega arith) in
        get_or-overwritten (overwritten bytes start (take done source)) (start + done) (take count (drop done source)) k (omega arith) after (omega arith)
        ∙ get_or-take count (drop done source) (k - (start + done)) 0 (omega arith)
        ∙ get_or-drop done source (k - (start + done)) 0
        ∙ ap (λ n. get_or source n 0) (omega arith)
        ∙ sym (get_or-take (done + count) source (k - start) 0 (omega arith))

    outside : (k : ℕ) → (k < start) ⊎ (start + length (take (done + count) source) ≤ k)
        → get_or (overwritten (overwritten bytes start (take done source)) (start + done) (take count (drop done source))) k 0 ≡ get_or bytes k 0
    outside k (inl before) =
        let first = length-take done source in
        outer k (inl (omega arith)) ∙ get_or-overwritten_other bytes start (take done source) k (omega arith) (inl before)
    outside k (inr past) =
        let first = length-take done source in
        let both = length-take (done + count) source in
        outer k (inr (omega arith)) ∙ get_or-overwritten_other bytes start (take done source) k (omega arith) (inr (omega arith))

-- ---- which entries hold bytes

pub held_pages-same : (pages : List ℕ) (xs ys : List Entry) → length xs ≡ length ys
    → ((k : ℕ) → is_some (get_or xs k None) ≡ is_some (get_or ys k None)) → held_pages pages xs ≡ held_pages pages ys
unfolding held_pages
held_pages-same [] xs ys long same = refl
held_pages-same (page ∷ pages) [] [] long same = refl
held_pages-same (page ∷ pages) [] (y ∷ ys) long same = absurd (omega arith)
held_pages-same (page ∷ pages) (x ∷ xs) [] long same = absurd (omega arith)
held_pages-same (page ∷ pages) (None ∷ xs) (None ∷ ys) long same = held_pages-same pages xs ys (omega arith) (λ k. same (suc k))
held_pages-same (page ∷ pages) (Some x ∷ xs) (Some y ∷ ys) long same = ap (λ held. page ∷ held) (held_pages-same pages xs ys (omega arith) (λ k. same (suc k)))
held_pages-same (page ∷ pages) (None ∷ xs) (Some y ∷ ys) long same = absurd (let clash : false ≡ true = same 0 in cc)
held_pages-same (page ∷ pages) (Some x ∷ xs) (None ∷ ys) long same = absurd (let clash : true ≡ false = same 0 in cc)

pub held_pages-set : (pages : List ℕ) (entries : List Entry) (i : ℕ) (entry : Entry)
    → length (held_pages pages (set entries i entry)) ≤ length (held_pages pages entries) + 1
unfolding held_pages
held_pages-set [] entries i entry = omega arith
held_pages-set (page ∷ pages) [] i entry = omega arith
held_pages-set (page ∷ pages) (None ∷ entries) zero None = omega arith
held_pages-set (page ∷ pages) (None ∷ entries) zero (Some new) = omega arith
held_pages-set (page ∷ pages) (Some old ∷ entries) zero None = omega arith
held_pages-set (page ∷ pages) (Some old ∷ entries) zero (Some new) = omega arith
held_pages-set (page ∷ pages) (None ∷ entries) (suc i) entry = held_pages-set pages entries i entry
held_pages-set (page ∷ pages) (Some old ∷ entries) (suc i) entry = omega (arith, held_pages-set pages entries i entry)

pub held_pages-set_kept : (pages : List ℕ) (entries : List Entry) (i : ℕ) (entry : Entry) → (IsSome (get_or entries i None) → IsSome entry)
    → length (held_pages pages entries) ≤ length (held_pages pages (set entries i entry))
unfolding held_pages
held_pages-set_kept [] entries i entry kept = omega arith
held_pages-set_kept (page ∷ pages) [] i entry kept = omega arith
held_pages-set_kept (page ∷ pages) (None ∷ entries) zero None kept = omega arith
held_pages-set_kept (page ∷ pages) (None ∷ entries) zero (Some new) kept = omega arith
held_pages-set_kept (page ∷ pages) (Some old ∷ entries) zero None kept = absurd (let no : false ≡ true = kept refl in cc)
held_pages-set_kept (page ∷ pages) (Some old ∷ entries) zero (Some new) kept = omega arith
held_pages-set_kept (page ∷ pages) (None ∷ entries) (suc i) entry kept = held_pages-set_kept pages entries i entry kept
held_pages-set_kept (page ∷ pages) (Some old ∷ entries) (suc i) entry kept = omega (arith, held_pages-set_kept pages entries i entry kept)

pub is_some-set : (entries : List Entry) (i : ℕ) (entry : Entry) → is_some entry ≡ is_some (get_or entries i None)
    → (k : ℕ) → is_some (get_or (set entries i entry) k None) ≡ is_some (get_or entries k None)
is_some-set [] i entry same k = refl
is_some-set (first ∷ entries) zero entry same zero = same
is_some-set (first ∷ entries) zero entry same (suc k) = refl
is_some-set (first ∷ entries) (suc i) entry same zero = refl
is_some-set (first ∷ entries) (suc i) entry same (suc k) = is_some-set entries i entry same k

held_pages-drop : (pages : List ℕ) (entries : List Entry) (i : ℕ) → length pages ≡ length entries → i < length entries
    → length (held_pages (drop i pages) (drop i entries))
    ≡ (if is_some (get_or entries i None) then 1 else 0) + length (held_pages (drop (suc i) pages) (drop (suc i) entries))
unfolding held_pages
held_pages-drop [] [] i long within = absurd (omega arith)
held_pages-drop [] (entry ∷ entries) i long within = absurd (omega arith)
held_pages-drop (page ∷ pages) [] i long within = absurd (omega arith)
held_pages-drop (page ∷ pages) (None ∷ entries) zero long within = omega arith
held_pages-drop (page ∷ pages) (Some bytes ∷ entries) zero long within = omega arith
held_pages-drop (page ∷ pages) (entry ∷ entries) (suc i) long within = held_pages-drop pages entries i (omega arith) (omega arith)

-- the count of an entry that was read
pub held_pages-item : (pages : List ℕ) (entries : List Entry) (i : ℕ) (entry : Entry) (test : Bool) → length pages ≡ length entries → i < length entries
    → entry ≡ get_or entries i entry → test ≡ is_some entry
    → length (held_pages (drop i pages) (drop i entries)) ≡ (if test then 1 else 0) + length (held_pages (drop (i + 1) pages) (drop (i + 1) entries))
held_pages-item pages entries i entry test long within at is =
    held_pages-drop pages entries i long within
    ∙ ap (λ (b : Bool). (if b then 1 else 0) + length (held_pages (drop (suc i) pages) (drop (suc i) entries)))
    (ap is_some (get_or_default entries i None entry within ∙ sym at) ∙ sym is)
    ∙ ap (λ n. (if test then 1 else 0) + length (held_pages (drop n pages) (drop n entries))) (let next : suc i ≡ i + 1 = omega arith in next)

pub held_pages-past : (pages : List ℕ) (entries : List Entry) (i : ℕ) → length entries ≤ i → held_pages (drop i pages) (drop i entries) ≡ []
unfolding held_pages
held_pages-past [] [] zero past = refl
held_pages-past [] [] (suc i) past = refl
held_pages-past [] (entry ∷ entries) zero past = absurd (omega arith)
held_pages-past [] (entry ∷ entries) (suc i) past = refl
held_pages-past (page ∷ pages) [] zero past = refl
held_pages-past (page ∷ pages) [] (suc i) past = nothing (drop i pages) where
  nothing : (pages : List ℕ) → held_pages pages [] ≡ []
  nothing [] = refl
  nothing (page ∷ pages) = refl
held_pages-past (page ∷ pages) (entry ∷ entries) zero past = absurd (omega arith)
held_pages-past (page ∷ pages) (entry ∷ entries) (suc i) past = held_pages-past pages entries i (omega arith)

-- ---- steps of the loops

pub content-absent : (entry : Entry) → is_some entry ≡ false → page_content entry ≡ zeros 4096
content-absent None absent = refl
content-absent (Some page) absent = absurd (let clash : true ≡ false = absent in cc)

pub write_more : (entries : List Entry) (old : List ℕ) (start done count n : ℕ) (source piece : List ℕ) (entry default : Entry)
    → AreFull entries → length old ≡ 4096 * length entries → flat entries ≡ overwritten old start (take done source)
    → done < length source → done + count ≤ length source → start + length source ≤ length old → (start + done) % 4096 + count ≤ 4096
    → n ≡ count → piece ≡ take n (drop done source)
    → page_content entry ≡ overwritten (page_content (get_or entries ((start + done) / 4096) default)) ((start + done) % 4096) piece
    → flat (set entries ((start + done) / 4096) entry) ≡ overwritten old start (take (done + count) source)
write_more entries old start done count n source piece entry default full long is some most fits low same_n piece_is put =
    let left = length-drop done source in
    let size : length piece ≡ count = omega (arith, ap length piece_is, length-take n (drop done source)) in
    let within : (start + done) / 4096 < length entries = omega arith in
    let at : 4096 * ((start + done) / 4096) + (start + done) % 4096 ≡ start + done = omega arith in
    flat-set entries ((start + done) / 4096) ((start + done) % 4096) piece entry full within (omega arith)
    (put ∙ ap (λ e. overwritten (page_content e) ((start + done) % 4096) piece) (get_or_default entries ((start + done) / 4096) default None within))
    ∙ ap (λ m. overwritten (flat entries) m piece) at
    ∙ ap (λ xs. overwritten xs (start + done) piece) is
    ∙ ap (λ xs. overwritten (overwritten old start (take done source)) (start + done) xs) (piece_is ∙ ap (λ m. take m (drop done source)) same_n)
    ∙ overwritten-more old start done count source most fits

pub read_more : (entries : List Entry) (out piece : List ℕ) (start done count n : ℕ) (entry : Entry) → AreFull entries
    → start + length out ≤ 4096 * length entries → done < length out → done + count ≤ length out → (start + done) % 4096 + count ≤ 4096
    → n ≡ count → entry ≡ get_or entries ((start + done) / 4096) entry
    → piece ≡ take (length (take n (drop done out))) (drop ((start + done) % 4096) (page_content entry))
    → ((k : ℕ) → k < done → get_or out k 0 ≡ get_or (flat entries) (start + k) 0)
    → (length (put_mid done n out piece) ≡ length out)
    × ((k : ℕ) → k < done + count → get_or (put_mid done n out piece) k 0 ≡ get_or (flat entries) (start + k) 0)
read_more entries out piece start done count n entry full fits some most low same_n at piece_is before = (
  omega (arith, ap length (put_mid-overwritten), length-overwritten out done piece (omega (arith, size))),
  λ k below. ap (λ xs. get_or xs k 0) put_mid-overwritten ∙ by_order k below (cases_lt k done),
)
  where
    within : (start + done) / 4096 < length entries
    within = omega arith

    page_is : entry ≡ get_or entries ((start + done) / 4096) None
    page_is = at ∙ get_or_default entries ((start + done) / 4096) entry None within

    capacity : length (take n (drop done out)) ≡ count
    capacity = omega (arith, length-take n (drop done out), length-drop done out)

    page_long : length (page_content entry) ≡ 4096
    page_long = ap (λ e. length (page_content e)) page_is ∙ full ((start + done) / 4096)

    size : length piece ≡ count
    size = omega (arith, ap length piece_is, length-take (length (take n (drop done out))) (drop ((start + done) % 4096) (page_content entry)), length-drop ((start + done) % 4096) (page_content entry), capacity, page_long)

    put_mid-overwritten : put_mid done n out piece ≡ overwritten out done piece
    put_mid-overwritten = ap (λ m. put_mid done m out piece) (same_n ∙ sym size) ∙ search (rules, places)

    by_order : (k : ℕ) → k < done + count → (k < done) ⊎ (done ≤ k) → get_or (overwritten out done piece) k 0 ≡ get_or (flat entries) (start + k) 0
    by_order k below (inl earlier) = get_or-overwritten_other out done piece k (omega (arith, size)) (inl earlier) ∙ before k earlier
    by_order k below (inr from) =
        get_or-overwritten out done piece k (omega (arith, size)) from (omega (arith, size))
        ∙ ap (λ xs. get_or xs (k - done) 0) piece_is
        ∙ get_or-take (length (take n (drop done out))) (drop ((start + done) % 4096) (page_content entry)) (k - done) 0 (omega (arith, capacity))
        ∙ get_or-drop ((start + done) % 4096) (page_content entry) (k - done) 0
        ∙ ap (λ e. get_or (page_content e) ((start + done) % 4096 + (k - done)) 0) page_is
        ∙ sym (get-flat entries full ((start + done) / 4096) ((start + done) % 4096 + (k - done)) within (omega arith))
        ∙ ap (λ m. get_or (flat entries) m 0) (let there : 4096 * ((start + done) / 4096) + ((start + done) % 4096 + (k - done)) ≡ start + k = omega arith in there)

-- ---- entries joined, opened and closed

pub flat-append : (xs ys : List Entry) → flat (xs ++ ys) ≡ flat xs ++ flat ys
unfolding flat
flat-append [] ys = refl
flat-append (x ∷ xs) ys = ap (λ rest. page_content x ++ rest) (flat-append xs ys) ∙ sym (append_assoc (page_content x) (flat xs) (flat ys))

pub length-absent : (count : ℕ) → length (replicate {A = Entry} count None) ≡ count
length-absent count = length-replicate count None

pub AreFull-absent : (count : ℕ) → AreFull (replicate count None)
AreFull-absent zero i = length-zeros 4096
AreFull-absent (suc count) zero = length-zeros 4096
AreFull-absent (suc count) (suc i) = AreFull-absent count i

pub AreFull-append : (xs ys : List Entry) → AreFull xs → AreFull ys → AreFull (xs ++ ys)
AreFull-append [] ys first second i = second i
AreFull-append (x ∷ xs) ys first second zero = first 0
AreFull-append (x ∷ xs) ys first second (suc i) = AreFull-append xs ys (AreFull-tail x xs first) second i

pub AreFull-take : (n : ℕ) (xs : List Entry) → AreFull xs → AreFull (take n xs)
AreFull-take zero xs full i = length-zeros 4096
AreFull-take (suc n) [] full i = length-zeros 4096
AreFull-take (suc n) (x ∷ xs) full zero = full 0
AreFull-take (suc n) (x ∷ xs) full (suc i) = AreFull-take n xs (AreFull-tail x xs full) i

pub AreFull-drop : (n : ℕ) (xs : List Entry) → AreFull xs → AreFull (drop n xs)
AreFull-drop zero xs full i = full i
AreFull-drop (suc n) [] full i = length-zeros 4096
AreFull-drop (suc n) (x ∷ xs) full i = AreFull-drop n xs (AreFull-tail x xs full) i

module _ (entries : List Entry) (full : AreFull entries) (at : ℕ) (within : at ≤ length entries) where
  flat_parts : flat entries ≡ flat (take at entries) ++ flat (drop at entries)
  flat_parts = ap flat (sym (take-append-drop at entries)) ∙ flat-append (take at entries) (drop at entries)

  prefix_long : length (flat (take at entries)) ≡ 4096 * at
  prefix_long = omega (arith, length-flat (take at entries) (AreFull-take at entries full), length-take at entries)

  pub take-flat : take (4096 * at) (flat entries) ≡ flat (take at entries)
  take-flat = ap (take (4096 * at)) flat_parts ∙ take_at (flat (take at entries)) (flat (drop at entries)) (4096 * at) prefix_long

  pub drop-flat : drop (4096 * at) (flat entries) ≡ flat (drop at entries)
  drop-flat = ap (drop (4096 * at)) flat_parts ∙ drop_at (flat (take at entries)) (flat (drop at entries)) (4096 * at) prefix_long

pub flat-absent : (count : ℕ) → flat (replicate count None) ≡ replicate (4096 * count) 0
flat-absent count =
    same_number_lists (flat (replicate count None)) (replicate (4096 * count) 0)
    (omega (arith, length-flat (replicate count None) (AreFull-absent count), length-absent count, length-replicate {A = ℕ} (4096 * count) 0))
    (λ k below.
    same k (omega (arith, length-flat (replicate count None) (AreFull-absent count), length-absent count)))
  where
    same : (k : ℕ) → k < 4096 * count → get_or (flat (replicate count None)) k 0 ≡ get_or (replicate (4096 * count) 0) k 0
    same k below =
        ap (λ n. get_or (flat (replicate count None)) n 0) (let at : k ≡ 4096 * (k / 4096) + k % 4096 = omega arith in at)
        ∙ get-flat (replicate count None) (AreFull-absent count) (k / 4096) (k % 4096) (omega (arith, length-absent count)) (omega arith)
        ∙ ap (λ (e : Entry). get_or (page_content e) (k % 4096) 0) (get_or-replicate {A = Entry} count (k / 4096) None None (omega arith))
        ∙ get_or-all_zeros 4096 (k % 4096)
        ∙ sym (get_or-replicate {A = ℕ} (4096 * count) k 0 0 below)

pub flat-opened : (entries : List Entry) → AreFull entries → (at count : ℕ) → at ≤ length entries
    → flat (take at entries ++ (replicate count None ++ drop at entries)) ≡ take (4096 * at) (flat entries) ++ (replicate (4096 * count) 0 ++ drop (4096 * at) (flat entries))
flat-opened entries full at count within =
    flat-append (take at entries) (replicate count None ++ drop at entries)
    ∙ ap (λ rest. flat (take at entries) ++ rest) (flat-append (replicate count None) (drop at entries))
    ∙ ap (λ xs. xs ++ (flat (replicate count None) ++ flat (drop at entries))) (sym (take-flat entries full at within))
    ∙ ap (λ xs. take (4096 * at) (flat entries) ++ (xs ++ flat (drop at entries))) (flat-absent count)
    ∙ ap (λ xs. take (4096 * at) (flat entries) ++ (replicate (4096 * count) 0 ++ xs)) (sym (drop-flat entries full at within))

pub flat-closed : (entries : List Entry) → AreFull entries → (at count : ℕ) → at + count ≤ length entries
    → flat (take at entries ++ drop (at + count) entries) ≡ take (4096 * at) (flat entries) ++ drop (4096 * at + 4096 * count) (flat entries)
flat-closed entries full at count within =
    flat-append (take at entries) (drop (at + count) entries)
    ∙ ap (λ xs. xs ++ flat (drop (at + count) entries)) (sym (take-flat entries full at (omega arith)))
    ∙ ap (λ xs. take (4096 * at) (flat entries) ++ xs) (sym (drop-flat entries full (at + count) within))
    ∙ ap (λ n. take (4096 * at) (flat entries) ++ drop n (flat entries)) (let sum : 4096 * (at + count) ≡ 4096 * at + 4096 * count = omega arith in sum)

held_pages-append : (ps qs : List ℕ) (xs ys : List Entry) → length ps ≡ length xs → held_pages (ps ++ qs) (xs ++ ys) ≡ held_pages ps xs ++ held_pages qs ys
unfolding held_pages
held_pages-append [] qs [] ys long = refl
held_pages-append [] qs (x ∷ xs) ys long = absurd (omega arith)
held_pages-append (p ∷ ps) qs [] ys long = absurd (omega arith)
held_pages-append (p ∷ ps) qs (None ∷ xs) ys long = held_pages-append ps qs xs ys (omega arith)
held_pages-append (p ∷ ps) qs (Some x ∷ xs) ys long = ap (λ held. p ∷ held) (held_pages-append ps qs xs ys (omega arith))

held_pages-absent : (ps : List ℕ) (count : ℕ) → held_pages ps (replicate count None) ≡ []
unfolding held_pages
held_pages-absent [] zero = refl
held_pages-absent [] (suc count) = refl
held_pages-absent (p ∷ ps) zero = refl
held_pages-absent (p ∷ ps) (suc count) = held_pages-absent ps count

module _ (pages : List ℕ) (entries : List Entry) (long : length entries ≡ length pages) where
  held_parts : (at : ℕ) → held_pages (take at pages) (take at entries) ++ held_pages (drop at pages) (drop at entries) ≡ held_pages pages entries
  held_parts at =
      sym (held_pages-append (take at pages) (drop at pages) (take at entries) (drop at entries) (omega (arith, length-take at pages, length-take at entries)))
      ∙ ap (λ ps. held_pages ps (take at entries ++ drop at entries)) (take-append-drop at pages) ∙ ap (held_pages pages) (take-append-drop at entries)

  pub held_pages-opened : (at count : ℕ) (numbers : List ℕ) → length numbers ≡ count
      → held_pages (take at pages ++ (numbers ++ drop at pages)) (take at entries ++ (replicate count None ++ drop at entries)) ≡ held_pages pages entries
  held_pages-opened at count numbers many =
      held_pages-append (take at pages) (numbers ++ drop at pages) (take at entries) (replicate count None ++ drop at entries) (omega (arith, length-take at pages, length-take at entries))
      ∙ ap (λ held. held_pages (take at pages) (take at entries) ++ held)
      (held_pages-append numbers (drop at pages) (replicate count None) (drop at entries) (omega (arith, length-absent count))
      ∙ ap (λ held. held ++ held_pages (drop at pages) (drop at entries)) (held_pages-absent numbers count))
      ∙ held_parts at

module _ (pages : List ℕ) (entries : List Entry) (long : length entries ≡ length pages) where
  pub held_pages-closed : (at count : ℕ)
      → length (held_pages (take at pages ++ drop (at + count) pages) (take at entries ++ drop (at + count) entries)) ≤ length (held_pages pages entries)
  held_pages-closed at count =
      let rest = held_parts (drop at pages) (drop at entries) (omega (arith, length-drop at pages, length-drop at entries)) count in
      let gone = length-append (held_pages (take count (drop at pages)) (take count (drop at entries))) (held_pages (drop count (drop at pages)) (drop count (drop at entries))) in
      let all = length-append (held_pages (take at pages) (take at entries)) (held_pages (drop at pages) (drop at entries)) in
      let left = length-append (held_pages (take at pages) (take at entries)) (held_pages (drop (at + count) pages) (drop (at + count) entries)) in
      let same : held_pages (drop count (drop at pages)) (drop count (drop at entries)) ≡ held_pages (drop (at + count) pages) (drop (at + count) entries) =
      ap (λ ps. held_pages ps (drop count (drop at entries))) (drop-drop count at pages) ∙ ap (held_pages (drop (at + count) pages)) (drop-drop count at entries) in
      let joined = held_pages-append (take at pages) (drop (at + count) pages) (take at entries) (drop (at + count) entries) (omega (arith, length-take at pages, length-take at entries)) in
      omega (arith, ap length rest, gone, ap length (held_parts pages entries long at), all, left, ap length same, ap length joined)

pub are_none : (pages : List ℕ) (entries : List Entry) → pages ≡ [] → entries ≡ [] → ArePages pages entries
unfolding flat
are_none [] [] no_pages no_entries = record {
  sound = record { rising = λ i j below within. absurd (omega arith); low = λ i within. absurd (omega arith); full = refl; small = λ i. omega arith };
  long = refl;
  full = λ i. length-zeros 4096;
}
are_none (page ∷ pages) entries no_pages no_entries = absurd (omega (arith, ap length no_pages))
are_none pages (entry ∷ entries) no_pages no_entries = absurd (omega (arith, ap length no_entries))
