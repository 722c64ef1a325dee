-- A list of items in codes, one item longer.
use Rattle.std.proofs.Common.{◌≡◌, ℕ, suc, ◌+◌, ◌-◌, ◌<◌, ◌≤◌, true, false, List, [], ◌∷◌, ◌++◌, length, map, take, get_or, append-nil, append_assoc, refl, sym, ap, subst, ◌∙◌, arith, length-append}
use Rattle.std.proofs.lemmas.Bool.{cond-true, cond-false, cases_lt}
use Rattle.std.proofs.lemmas.Bool.Decides.{nat_tests}
use Rattle.std.proofs.lemmas.List.{take_more}
use Rattle.std.proofs.Math.ListN.{get_or-append}
use Rattle.std.proofs.Math.Seq.{get_or-append_seam}
use Rattle.std.proofs.Common.{◌⊎◌, inl, inr, nat_lt}
use Rattle.std.proofs.Common.{Some, None, option_map, OnErr, OnOk, Result, Ok, Err}
use Rattle.std.specs.List.{AllByRecursion, slice_get}
use Rattle.std.proofs.lemmas.Option.{get_or_from_slice_get, slice_get-get_or, slice_get-map, slice_get_past}
use Rattle.ddc_base.specs.Limits.{most_items}
use Rattle.hex_langs.specs.declared.items.item.Item.{Item}
use Rattle.hex_langs.specs.declared.items.item.Item.TheVariants.{Abs, Byte, Gap, Label, Pad, Rel, Word}
use Rattle.hex_langs.specs.Items.Labels.{label_in, label_names}
use Rattle.hex_langs.specs.Items.Representation.Packed.{ArePacked, item_of, items_of}

-- ---- labels

pub labels-append : (items more : List Item) → label_names (items ++ more) ≡ label_names items ++ label_names more
labels-append [] more = refl
labels-append (it ∷ items) more =
    ap (λ (l : List (List ℕ)). label_in it ++ l) (labels-append items more) ∙ sym (append_assoc (label_in it) (label_names items) (label_names more))

pub no-label : (it : Item) → ((name : List ℕ) → it ≡ Label name → ⊥) → label_in it ≡ []
no-label (Label name) other = absurd (other name refl)
no-label (Byte byte) other = refl
no-label (Word value kind name) other = refl
no-label (Rel name) other = refl
no-label (Gap one two) other = refl
no-label (Abs name) other = refl
no-label Pad other = refl

-- the labels up to an item and that one's
pub labels-more : (items : List Item) (index : ℕ) (it : Item) → index < length items → it ≡ get_or items index it
    → label_names (take (index + 1) items) ≡ label_names (take index items) ++ label_in it
labels-more items index it within is =
    ap label_names (take_more items index it within) ∙ labels-append (take index items) (get_or items index it ∷ [])
    ∙ ap (λ (l : List (List ℕ)). label_names (take index items) ++ l) (append-nil (label_in (get_or items index it)))
    ∙ ap (λ (i : Item). label_names (take index items) ++ label_in i) (sym is)

item_of-byte : (others : List Item) (code : ℕ) → code < 256 → item_of others code ≡ Byte code
item_of-byte others code small = let test : nat_lt code 256 ≡ true = grind (arith, nat_tests) in cond-true _ _ _ test

item_of-other : (others : List Item) (code : ℕ) → 256 ≤ code → item_of others code ≡ get_or others (code - 256) Pad
item_of-other others code high = let test : nat_lt code 256 ≡ false = grind (arith, nat_tests) in cond-false _ _ _ test

-- a code that is known stands for the same item after one more
item_of-more : (others : List Item) (it : Item) (code : ℕ) → code < 256 + length others → item_of (others ++ it ∷ []) code ≡ item_of others code
item_of-more others it code known = by (cases_lt code 256)
  where
    by : (code < 256) ⊎ (256 ≤ code) → item_of (others ++ it ∷ []) code ≡ item_of others code
    by (inl small) = item_of-byte (others ++ it ∷ []) code small ∙ sym (item_of-byte others code small)
    by (inr high) =
        let within : code - 256 < length others = omega arith in
        item_of-other (others ++ it ∷ []) code high ∙ get_or-append others (it ∷ []) Pad (code - 256) within ∙ sym (item_of-other others code high)

items-more : (codes : List ℕ) (others : List Item) (it : Item) → AllByRecursion (λ code. code < 256 + length others) codes
    → items_of codes (others ++ it ∷ []) ≡ items_of codes others
unfolding items_of
items-more [] others it known = refl
items-more (code ∷ codes) others it known =
    ap (λ (i : Item). i ∷ map (item_of (others ++ it ∷ [])) codes) (item_of-more others it code known.0)
    ∙ ap (λ (l : List Item). item_of others code ∷ l) (items-more codes others it known.1)

items-append : (codes : List ℕ) (code : ℕ) (others : List Item) → items_of (codes ++ code ∷ []) others ≡ items_of codes others ++ item_of others code ∷ []
unfolding items_of
items-append [] code others = refl
items-append (first ∷ codes) code others = ap (λ (l : List Item). item_of others first ∷ l) (items-append codes code others)

known-append : (bound more : ℕ) (codes : List ℕ) (code : ℕ) → bound ≤ more → code < more → AllByRecursion (λ c. c < bound) codes
    → AllByRecursion (λ c. c < more) (codes ++ code ∷ [])
known-append bound more [] code wider new known = (new, tt)
known-append bound more (first ∷ codes) code wider new known = (omega (arith, known.0), known-append bound more codes code wider new known.1)

-- one byte more
pub pushed-byte : (codes : List ℕ) (others : List Item) (byte : ℕ) → byte < 256 → items_of (codes ++ byte ∷ []) others ≡ items_of codes others ++ Byte byte ∷ []
pushed-byte codes others byte small =
    items-append codes byte others ∙ ap (λ (i : Item). items_of codes others ++ i ∷ []) (item_of-byte others byte small)

-- some bytes more
pushed-bytes : (codes : List ℕ) (others : List Item) (bytes : List ℕ) → AllByRecursion (λ byte. byte < 256) bytes
    → items_of (codes ++ bytes) others ≡ items_of codes others ++ map Byte bytes
pushed-bytes codes others [] small = ap (λ (l : List ℕ). items_of l others) (append-nil codes) ∙ sym (append-nil (items_of codes others))
pushed-bytes codes others (byte ∷ bytes) small =
    ap (λ (l : List ℕ). items_of l others) (sym (append_assoc codes (byte ∷ []) bytes))
    ∙ pushed-bytes (codes ++ byte ∷ []) others bytes small.1
    ∙ ap (λ (l : List Item). l ++ map Byte bytes) (pushed-byte codes others byte small.0)
    ∙ append_assoc (items_of codes others) (Byte byte ∷ []) (map Byte bytes)

pub packed-byte : (codes : List ℕ) (others : List Item) (byte : ℕ) → byte < 256 → length codes < most_items → ArePacked codes others → ArePacked (codes ++ byte ∷ []) others
packed-byte codes others byte small capacity packed = record {
  labels = packed.labels
      ∙ sym (ap label_names (pushed-byte codes others byte small) ∙ labels-append (items_of codes others) (Byte byte ∷ []) ∙ append-nil (label_names (items_of codes others)));
  few = omega (arith, length-append codes (byte ∷ []));
  fewer = omega (arith, packed.fewer, length-append codes (byte ∷ []));
  known = known-append (256 + length others) (256 + length others) codes byte (omega arith) (omega arith) packed.known;
}

packed-bytes : (codes : List ℕ) (others : List Item) (bytes : List ℕ) → AllByRecursion (λ byte. byte < 256) bytes
    → length codes + length bytes ≤ most_items → ArePacked codes others → ArePacked (codes ++ bytes) others
packed-bytes codes others [] small capacity packed = subst (λ (l : List ℕ). ArePacked l others) (sym (append-nil codes)) packed
packed-bytes codes others (byte ∷ bytes) small capacity packed =
    subst (λ (l : List ℕ). ArePacked l others) (append_assoc codes (byte ∷ []) bytes)
    (packed-bytes (codes ++ byte ∷ []) others bytes small.1 (omega (arith, length-append codes (byte ∷ []))) (packed-byte codes others byte small.0 (omega arith) packed))

-- four bytes more, or none
pub bytes-packed : {E : Type 0} (result : Result (Unit {0}) E) (old new : List ℕ) (others : List Item) (bytes : List ℕ) → OnOk result (new ≡ old ++ bytes)
    → OnErr result (new ≡ old) → AllByRecursion (λ byte. byte < 256) bytes → length old + length bytes ≤ most_items → ArePacked old others → ArePacked new others
bytes-packed (Ok done) old new others bytes more same small capacity packed =
    subst (λ (l : List ℕ). ArePacked l others) (sym more) (packed-bytes old others bytes small capacity packed)
bytes-packed (Err why) old new others bytes more same small capacity packed = subst (λ (l : List ℕ). ArePacked l others) (sym same) packed

pub bytes-pushed : {E : Type 0} (result : Result (Unit {0}) E) (old new : List ℕ) (others : List Item) (bytes : List ℕ) → OnOk result (new ≡ old ++ bytes)
    → AllByRecursion (λ byte. byte < 256) bytes → OnOk result (items_of new others ≡ items_of old others ++ map Byte bytes)
bytes-pushed (Ok done) old new others bytes more small = ap (λ (l : List ℕ). items_of l others) more ∙ pushed-bytes old others bytes small
bytes-pushed (Err why) old new others bytes more small = tt

-- one other item more
pub pushed-other : (codes : List ℕ) (others : List Item) (it : Item) → ArePacked codes others
    → items_of (codes ++ (256 + length others) ∷ []) (others ++ it ∷ []) ≡ items_of codes others ++ it ∷ []
pushed-other codes others it packed =
    let size : 256 + length others - 256 ≡ length others = omega arith in
    items-append codes (256 + length others) (others ++ it ∷ [])
    ∙ ap (λ (l : List Item). l ++ item_of (others ++ it ∷ []) (256 + length others) ∷ []) (items-more codes others it packed.known)
    ∙ ap (λ (i : Item). items_of codes others ++ i ∷ [])
    (item_of-other (others ++ it ∷ []) (256 + length others) (omega arith) ∙ ap (λ (n : ℕ). get_or (others ++ it ∷ []) n Pad) size ∙ get_or-append_seam others it [] Pad)

pub packed-other : (codes : List ℕ) (others : List Item) (it : Item) → length codes < most_items → ArePacked codes others
    → ArePacked (codes ++ (256 + length others) ∷ []) (others ++ it ∷ [])
packed-other codes others it capacity packed = record {
  labels = labels-append others (it ∷ []) ∙ ap (λ (l : List (List ℕ)). l ++ label_names (it ∷ [])) packed.labels
      ∙ sym (ap label_names (pushed-other codes others it packed) ∙ labels-append (items_of codes others) (it ∷ []));
  few = omega (arith, length-append codes ((256 + length others) ∷ []));
  fewer = omega (arith, packed.fewer, length-append codes ((256 + length others) ∷ []), length-append others (it ∷ []));
  known = known-append (256 + length others) (256 + length (others ++ it ∷ [])) codes (256 + length others)
      (omega (arith, length-append others (it ∷ []))) (omega (arith, length-append others (it ∷ []))) packed.known;
}

length-items : (codes : List ℕ) (others : List Item) → length (items_of codes others) ≡ length codes
unfolding items_of
length-items [] others = refl
length-items (code ∷ codes) others = ap suc (length-items codes others)

pub length-packed : (codes : List ℕ) (others : List Item) → length (items_of codes others) ≡ length codes
length-packed codes others = length-items codes others

-- ---- one item

slice_get-packed : (codes : List ℕ) (others : List Item) (index : ℕ) → slice_get (items_of codes others) index ≡ option_map (item_of others) (slice_get codes index)
unfolding items_of
slice_get-packed codes others index = slice_get-map (item_of others) codes index

pub item-past : (codes : List ℕ) (others : List Item) (index : ℕ) → length codes ≤ index → None ≡ slice_get (items_of codes others) index
item-past codes others index past = sym (slice_get-packed codes others index ∙ ap (option_map (item_of others)) (slice_get_past codes index past))

item-here : (codes : List ℕ) (others : List Item) (index : ℕ) → index < length codes
    → slice_get (items_of codes others) index ≡ Some (item_of others (get_or codes index 0))
item-here codes others index within = slice_get-packed codes others index ∙ ap (option_map (item_of others)) (slice_get-get_or codes index 0 within)

pub item-byte : (codes : List ℕ) (others : List Item) (index : ℕ) → index < length codes → get_or codes index 0 < 256
    → Some (Byte (get_or codes index 0)) ≡ slice_get (items_of codes others) index
item-byte codes others index within small = sym (item-here codes others index within ∙ ap Some (item_of-byte others (get_or codes index 0) small))

pub item-other : (codes : List ℕ) (others : List Item) (index : ℕ) (it : Item) → index < length codes → 256 ≤ get_or codes index 0
    → Some it ≡ slice_get others (get_or codes index 0 - 256) → Some it ≡ slice_get (items_of codes others) index
item-other codes others index it within high found =
    ap Some (sym (get_or_from_slice_get others (get_or codes index 0 - 256) it Pad (sym found)))
    ∙ sym (item-here codes others index within ∙ ap Some (item_of-other others (get_or codes index 0) high))
