-- Pages that are put between others, or taken away from between them.
use Rattle.std.proofs.Common.{◌≡◌, ℕ, zero, suc, ◌+◌, ◌-◌, ◌*◌, ◌/◌, ◌%◌, ◌^◌, ◌<◌, ◌≤◌, Option, None, Some, List, [], ◌∷◌, ◌++◌, length, get_or, set, take, drop, replicate, refl, sym, ap, ◌∙◌, arith, ◌⊎◌, inl, inr, append_assoc, length-append, length-take}
use Rattle.std.specs.Option.{option_map}
use Rattle.std.specs.List.{range_with_len}
use Rattle.std.specs.FinMap.{get}
use Rattle.std.proofs.lemmas.Bool.{cases_eq, cases_lt}
use Rattle.std.proofs.lemmas.Option.{none-some}
use Rattle.std.proofs.lemmas.List.{set_at, get_or_append_left, get_or-append-add, take-append-drop, take_at, drop_at}
use Rattle.std.proofs.lemmas.List.FromFn.{length-range_with_len, get_or-range_with_len}
use Rattle.ddc_base.specs.Limits.{page_number_end}
use Rattle.paged_mem.specs.Inside.Flat.{memory_of, page_index, Rises, AreLow}
use Rattle.paged_mem.specs.Inside.Wholeness.{page_index_here, page_index_later, page_index-some, get-memory_of}
use Rattle.paged_mem.proofs.PageIndices.{page_index-at, page_index-none}

-- ---- numbers in a row

range-more : (number count : ℕ) → range_with_len number (suc count) ≡ range_with_len number count ++ (number + count) ∷ []
range-more number zero = ap (λ n. n ∷ []) (omega arith)
range-more number (suc count) = ap (λ rest. number ∷ rest) (range-more (number + 1) count ∙ ap (λ n. range_with_len (number + 1) count ++ n ∷ []) (omega arith))

-- a number written at the first zero after those that stand already
pub numbered_more : (prefix back : List ℕ) (at number i remaining : ℕ) → length prefix ≡ at → set (prefix ++ (range_with_len number i ++ (replicate (suc remaining) 0 ++ back))) (at + i) (number + i) ≡ prefix ++ (range_with_len number (suc i) ++ (replicate remaining 0 ++ back))
numbered_more prefix back at number i remaining long =
    ap (λ xs. set xs (at + i) (number + i)) (sym (append_assoc prefix (range_with_len number i) (0 ∷ (replicate remaining 0 ++ back))))
    ∙ set_at (prefix ++ range_with_len number i) 0 (replicate remaining 0 ++ back) (number + i) (at + i) (omega (arith, length-append prefix (range_with_len number i), length-range_with_len number i))
    ∙ append_assoc prefix (range_with_len number i) ((number + i) ∷ (replicate remaining 0 ++ back))
    ∙ ap (λ xs. prefix ++ xs) (sym (append_assoc (range_with_len number i) ((number + i) ∷ []) (replicate remaining 0 ++ back)) ∙ ap (λ xs. xs ++ (replicate remaining 0 ++ back)) (sym (range-more number i)))

pub Rises-range : (number count : ℕ) → Rises (range_with_len number count)
Rises-range number count i j below within =
    let short = length-range_with_len number count in
    omega (arith, get_or-range_with_len number count i 0 (omega arith), get_or-range_with_len number count j 0 (omega arith))

pub page_index-range : (number count n : ℕ) → number ≤ n → n < number + count → page_index (range_with_len number count) n ≡ Some (n - number)
page_index-range number count n from to =
    page_index-at (range_with_len number count)
    (Rises-range number count)
    n (n - number) (omega (arith, length-range_with_len number count)) (get_or-range_with_len number count (n - number) 0 (omega arith) ∙ omega arith)

pub page_index-range_none : (number count n : ℕ) → (n < number) ⊎ (number + count ≤ n) → page_index (range_with_len number count) n ≡ None
page_index-range_none number count n out =
    page_index-none (range_with_len number count) n (λ k within e. apart k (omega (arith, length-range_with_len number count)) (sym (get_or-range_with_len number count k 0 (omega (arith, length-range_with_len number count))) ∙ e) out)
  where
    apart : (k : ℕ) → k < count → number + k ≡ n → (n < number) ⊎ (number + count ≤ n) → ⊥
    apart k below e (inl low) = omega arith
    apart k below e (inr high) = omega arith

-- ---- joined pages

pub page_index-prefix : (pages more : List ℕ) (n i : ℕ) → page_index pages n ≡ Some i → page_index (pages ++ more) n ≡ Some i
page_index-prefix [] more n i e = absurd (none-some i (unfold page_index in e))
page_index-prefix (page ∷ pages) more n i e =
    elim (cases_eq page n) [
      | inl same ↦ page_index_here page n (pages ++ more) same ∙ sym (page_index_here page n pages same) ∙ e
      | inr ne ↦ page_index_later page n (pages ++ more) ne ∙ later (λ j was. page_index-prefix pages more n j was) (page_index pages n) refl (sym (page_index_later page n pages ne) ∙ e)
    ]
  where
    later : ((j : ℕ) → page_index pages n ≡ Some j → page_index (pages ++ more) n ≡ Some j) → (o : Option ℕ) → page_index pages n ≡ o → option_map (λ i. 1 + i) o ≡ Some i → option_map (λ i. 1 + i) (page_index (pages ++ more) n) ≡ Some i
    later rest None was e = absurd (none-some i e)
    later rest (Some j) was e = ap (option_map (λ i. 1 + i)) (rest j was) ∙ e

page_index-back : (pages more : List ℕ) (n : ℕ) → page_index pages n ≡ None → page_index (pages ++ more) n ≡ option_map (λ j. length pages + j) (page_index more n)
page_index-back [] more n e = same (page_index more n)
  where
    same : (o : Option ℕ) → o ≡ option_map (λ j. 0 + j) o
    same None = refl
    same (Some j) = ap Some (omega arith)
page_index-back (page ∷ pages) more n e =
    elim (cases_eq page n) [
      | inl same ↦ absurd (none-some 0 (sym e ∙ page_index_here page n pages same))
      | inr ne ↦ page_index_later page n (pages ++ more) ne ∙ ap (option_map (λ i. 1 + i)) (page_index-back pages more n (remaining (page_index pages n) (sym (page_index_later page n pages ne) ∙ e))) ∙ further (page_index more n)
    ]
  where
    remaining : (o : Option ℕ) → option_map (λ i. 1 + i) o ≡ None → o ≡ None
    remaining None e = refl
    remaining (Some j) e = absurd (none-some (1 + j) (sym e))

    further : (o : Option ℕ) → option_map (λ i. 1 + i) (option_map (λ j. length pages + j) o) ≡ option_map (λ j. length (page ∷ pages) + j) o
    further None = refl
    further (Some j) = ap Some (omega arith)

module _ (pages more bytes rest : List ℕ) (full : length bytes ≡ 4096 * length pages) (full_too : length rest ≡ 4096 * length more) (q : ℕ) where
  joined : length (bytes ++ rest) ≡ 4096 * length (pages ++ more)
  joined = omega (arith, length-append bytes rest, length-append pages more)

  pub get_prefix : (i : ℕ) → page_index pages (q / 4096) ≡ Some i → get (memory_of (pages ++ more) (bytes ++ rest)) q ≡ get (memory_of pages bytes) q
  get_prefix i at =
      let within = page_index-some pages (q / 4096) i at in
      get-memory_of (pages ++ more) (bytes ++ rest) q joined
      ∙ ap (λ o. option_map (λ s. get_or (bytes ++ rest) s 0) (option_map (λ i. 4096 * i + q % 4096) o)) (page_index-prefix pages more (q / 4096) i at)
      ∙ ap Some (get_or_append_left bytes rest 0 (4096 * i + q % 4096) (omega (arith, within.0)))
      ∙ sym (get-memory_of pages bytes q full ∙ ap (λ o. option_map (λ s. get_or bytes s 0) (option_map (λ i. 4096 * i + q % 4096) o)) at)

  pub get_back : page_index pages (q / 4096) ≡ None → get (memory_of (pages ++ more) (bytes ++ rest)) q ≡ get (memory_of more rest) q
  get_back at =
      get-memory_of (pages ++ more) (bytes ++ rest) q joined
      ∙ ap (λ o. option_map (λ s. get_or (bytes ++ rest) s 0) (option_map (λ i. 4096 * i + q % 4096) o)) (page_index-back pages more (q / 4096) at)
      ∙ shifted (page_index more (q / 4096))
      ∙ sym (get-memory_of more rest q full_too)
    where
      shifted : (o : Option ℕ) → option_map (λ s. get_or (bytes ++ rest) s 0) (option_map (λ i. 4096 * i + q % 4096) (option_map (λ j. length pages + j) o)) ≡ option_map (λ s. get_or rest s 0) (option_map (λ i. 4096 * i + q % 4096) o)
      shifted None = refl
      shifted (Some j) = ap Some (ap (λ s. get_or (bytes ++ rest) s 0) (omega arith) ∙ get_or-append-add bytes rest (4096 * j + q % 4096) 0)

-- ---- elements of three lists joined, the one between them of numbers in a row

pub at_prefix : (prefix more : List ℕ) (i : ℕ) → i < length prefix → get_or (prefix ++ more) i 0 ≡ get_or prefix i 0
at_prefix prefix more i below = get_or_append_left prefix more 0 i below

pub at_back : (prefix back : List ℕ) (j : ℕ) → get_or (prefix ++ back) (length prefix + j) 0 ≡ get_or back j 0
at_back prefix back j = get_or-append-add prefix back j 0

pub at_middle : (prefix back : List ℕ) (number count i : ℕ) → i < count → get_or (prefix ++ (range_with_len number count ++ back)) (length prefix + i) 0 ≡ number + i
at_middle prefix back number count i below =
    at_back prefix (range_with_len number count ++ back) i
    ∙ at_prefix (range_with_len number count) back i (omega (arith, length-range_with_len number count))
    ∙ get_or-range_with_len number count i 0 below

pub at_end : (prefix back : List ℕ) (number count j : ℕ) → get_or (prefix ++ (range_with_len number count ++ back)) (length prefix + (count + j)) 0 ≡ get_or back j 0
at_end prefix back number count j =
    at_back prefix (range_with_len number count ++ back) (count + j)
    ∙ ap (λ n. get_or (range_with_len number count ++ back) (n + j) 0) (sym (length-range_with_len number count))
    ∙ at_back (range_with_len number count) back j

-- which of two joined lists an index falls in
pub data Part (prefix back : List ℕ) (i : ℕ) : Type 0 where
  in_prefix : i < length prefix → get_or (prefix ++ back) i 0 ≡ get_or prefix i 0 → Part prefix back i
  in_back : (j : ℕ) → i ≡ length prefix + j → j < length back → get_or (prefix ++ back) i 0 ≡ get_or back j 0 → Part prefix back i

pub part_of : (prefix back : List ℕ) (i : ℕ) → i < length (prefix ++ back) → Part prefix back i
part_of prefix back i within = by_order (cases_lt i (length prefix))
  where
    by_order : (i < length prefix) ⊎ (length prefix ≤ i) → Part prefix back i
    by_order (inl below) = in_prefix below (at_prefix prefix back i below)
    by_order (inr from) =
        let is : i ≡ length prefix + (i - length prefix) = omega arith in
        in_back (i - length prefix) is (omega (arith, length-append prefix back)) (ap (λ k. get_or (prefix ++ back) k 0) is ∙ at_back prefix back (i - length prefix))

-- joined lists rise where each does and the first ends below the second
pub Rises-append : (prefix back : List ℕ) → Rises prefix → Rises back → ((i j : ℕ) → i < length prefix → j < length back → get_or prefix i 0 < get_or back j 0) → Rises (prefix ++ back)
Rises-append prefix back first second across i j below within = by_parts (part_of prefix back i (omega arith)) (part_of prefix back j within)
  where
    by_parts : Part prefix back i → Part prefix back j → get_or (prefix ++ back) i 0 < get_or (prefix ++ back) j 0
    by_parts (in_prefix a is) (in_prefix b js) = omega (arith, first i j below b)
    by_parts (in_prefix a is) (in_back j' e b js) = omega (arith, across i j' a b)
    by_parts (in_back i' e a is) (in_prefix b js) = absurd (omega arith)
    by_parts (in_back i' e a is) (in_back j' e' b js) = omega (arith, second i' j' (omega arith) b)

pub AreLow-append : (prefix back : List ℕ) → AreLow prefix → AreLow back → AreLow (prefix ++ back)
AreLow-append prefix back first second i within = by_part (part_of prefix back i within)
  where
    by_part : Part prefix back i → get_or (prefix ++ back) i 0 < page_number_end
    by_part (in_prefix a is) = omega (arith, first i a)
    by_part (in_back j e a is) = omega (arith, second j a)

pub AreLow-range : (number count : ℕ) → number + count ≤ page_number_end → AreLow (range_with_len number count)
AreLow-range number count low i within =
    omega (arith, get_or-range_with_len number count i 0 (omega (arith, length-range_with_len number count)), length-range_with_len number count)

-- a gap that is closed again leaves the list
pub gap_closed : {A : Type 0} (xs zs : List A) (at count : ℕ) → at ≤ length xs → length zs ≡ count → take at (take at xs ++ (zs ++ drop at xs)) ++ drop (at + count) (take at xs ++ (zs ++ drop at xs)) ≡ xs
gap_closed xs zs at count within long =
    let prefix : take at (take at xs ++ (zs ++ drop at xs)) ≡ take at xs = take_at (take at xs) (zs ++ drop at xs) at (omega (arith, length-take at xs)) in
    let back : drop (at + count) (take at xs ++ (zs ++ drop at xs)) ≡ drop at xs =
    ap (λ ys. drop (at + count) ys) (sym (append_assoc (take at xs) zs (drop at xs))) ∙ drop_at (take at xs ++ zs) (drop at xs) (at + count) (omega (arith, length-append (take at xs) zs, length-take at xs)) in
    ap (λ ys. ys ++ drop (at + count) (take at xs ++ (zs ++ drop at xs))) prefix ∙ ap (λ ys. take at xs ++ ys) back ∙ take-append-drop at xs
