-- The table of labels, and what the definitions say of the items.
use Rattle.std.proofs.Common.{◌≡◌, ℕ, ◌+◌, ◌*◌, ◌<◌, ◌≤◌, ◌^◌, Bool, true, false, cond, ◌||◌, List, [], ◌∷◌, ◌++◌, length, append-nil, Option, Some, None, IfSome, Ok, refl, sym, ap, subst, ◌∙◌, true≢false, is_some, arith}
use Rattle.std.proofs.lemmas.Slice.Eq.{bytes_eq-Decides}
use Rattle.std.proofs.lemmas.Cmp.{nat_list_eq_equiv}
use Rattle.std.specs.Map.{lookup}
use Rattle.std.specs.Prelude.{bytes_eq}
use Rattle.std.specs.List.{list_any}
use Rattle.ddc_base.specs.Limits.{most_address, most_items}
use Rattle.hex_langs.specs.declared.items.item.Item.{Item}
use Rattle.hex_langs.specs.declared.items.item.Item.TheVariants as item
use Rattle.hex_langs.specs.Link.Link.{address_of, defines, first_repeat, size_at}
use Rattle.hex_langs.specs.Link.Representation.Tables.{address_in, Adds, has, LabelMap, repeat_by, Tables}
use Rattle.hex_langs.proofs.LinkLemmas.Joins.{size-small}

-- no address is beyond the sizes of the items
address-small : (items : List Item) (address limit : ℕ) (name : List ℕ) → address + 4 * length items < limit
    → IfSome (address_of address items name) (λ at. at < limit)
address-small [] address limit name fits = tt
address-small (it ∷ items) address limit name fits =
    by (defines name it) (address-small items (address + size_at address it) limit name (omega (arith, size-small address it)))
  where
    by : (test : Bool) → IfSome (address_of (address + size_at address it) items name) (λ at. at < limit)
        → IfSome (cond test (Some address) (address_of (address + size_at address it) items name)) (λ at. at < limit)
    by true later = omega arith
    by false later = later

-- ---- labels that are defined again

any-more : (seen : List (List ℕ)) (name other : List ℕ)
    → list_any (bytes_eq other) (seen ++ name ∷ []) ≡ cond (bytes_eq name other) true (list_any (bytes_eq other) seen)
any-more [] name other = by (bytes_eq name other) (nat_list_eq_equiv.symm other name)
  where
    by : (test : Bool) → bytes_eq other name ≡ test → (bytes_eq other name || false) ≡ cond test true false
    by true is = ap (λ (t : Bool). t || false) is
    by false is = ap (λ (t : Bool). t || false) is
any-more (first ∷ seen) name other = by (bytes_eq other first) (bytes_eq name other) (any-more seen name other)
  where
    by : (here test : Bool) → list_any (bytes_eq other) (seen ++ name ∷ []) ≡ cond test true (list_any (bytes_eq other) seen)
        → (here || list_any (bytes_eq other) (seen ++ name ∷ [])) ≡ cond test true (here || list_any (bytes_eq other) seen)
    by true true is = refl
    by true false is = refl
    by false test is = is

seen-by : (seen : List (List ℕ)) (index : ℕ) (items : List Item) → first_repeat seen index items ≡ repeat_by (λ name. list_any (bytes_eq name) seen) index items
seen-by seen index [] = refl
seen-by seen index (item.Label name ∷ items) =
    ap (cond (list_any (bytes_eq name) seen) (Some index)) (seen-by (seen ++ name ∷ []) (index + 1) items ∙ (λ i. repeat_by (λ other. any-more seen name other i) (index + 1) items))
seen-by seen index (it ∷ items) = ap (λ (s : List (List ℕ)). first_repeat s (index + 1) items) (append-nil seen) ∙ seen-by seen (index + 1) items

repeat-first : (items : List Item) → first_repeat [] 0 items ≡ repeat_by (λ name. false) 0 items
repeat-first items = seen-by [] 0 items

-- ---- a table after some of the items

-- an address that a table has, or one that later items give
abbrev pub or_later : Option ℕ → Option ℕ → Option ℕ
or_later (Some at) later = Some at
or_later None later = later

-- what a table tells of items, of which those from a number on, at an address, are left
pub record IsTableOf (items : List Item) (base : ℕ) (table : LabelMap) (index address : ℕ) (remaining : List Item) : Type 0 where
  pub once : first_repeat [] 0 items ≡ repeat_by (has table) index remaining
  pub found : (name : List ℕ) → address_of base items name ≡ or_later (address_in table name) (address_of address remaining name)

pub of-empty : (items : List Item) (base : ℕ) (table : LabelMap) → table.entries ≡ [] → IsTableOf items base table 0 base items
of-empty items base table none =
    let nothing : (name : List ℕ) → address_in table name ≡ None = λ name. ap (lookup (bytes_eq name)) none in
    record {
      once = repeat-first items ∙ (λ i. repeat_by (λ name. is_some (sym (nothing name) i)) 0 items);
      found = λ name. sym (ap (λ (o : Option ℕ). or_later o (address_of base items name)) (nothing name));
    }

-- what a map answers when a label's name goes into it
pub adds-label : (E : Type 0) (name key : List ℕ) (it : Item) (address : ℕ) (again : Bool) (before : Option ℕ) (old new : LabelMap)
    → it ≡ item.Label name → key ≡ name → again ≡ is_some before → before ≡ address_in old key
    → ((other : List ℕ) → address_in new other ≡ cond (bytes_eq key other) (Some address) (address_in old other))
    → Adds {E = E} (Ok again) it address old new
adds-label E name key it address again before old new it_is key_is again_is before_is found =
    subst (λ (i : Item). Adds {E = E} (Ok again) i address old new) (sym it_is) (
      again_is ∙ ap is_some before_is ∙ ap (has old) key_is,
      λ other. found other ∙ ap (λ (k : List ℕ). cond (bytes_eq k other) (Some address) (address_in old other)) key_is,
    )

-- an item's label goes into the table, which has its name
pub repeated : (E : Type 0) (it : Item) (items remaining : List Item) (base : ℕ) (old new : LabelMap) (index address : ℕ)
    → IsTableOf items base old index address (it ∷ remaining) → Adds {E = E} (Ok true) it address old new → first_repeat [] 0 items ≡ Some index
repeated E (item.Label name) items remaining base old new index address is adds =
    is.once ∙ ap (λ (t : Bool). cond t (Some index) (repeat_by (λ other. cond (bytes_eq name other) true (has old other)) (index + 1) remaining)) (sym adds.0)
repeated E (item.Byte byte) items remaining base old new index address is adds = absurd (true≢false adds.0)
repeated E (item.Word value kind name) items remaining base old new index address is adds = absurd (true≢false adds.0)
repeated E (item.Rel name) items remaining base old new index address is adds = absurd (true≢false adds.0)
repeated E (item.Gap one other) items remaining base old new index address is adds = absurd (true≢false adds.0)
repeated E (item.Abs name) items remaining base old new index address is adds = absurd (true≢false adds.0)
repeated E item.Pad items remaining base old new index address is adds = absurd (true≢false adds.0)

-- or which does not have it
pub more : (E : Type 0) (it : Item) (items remaining : List Item) (base : ℕ) (old new : LabelMap) (index address : ℕ)
    → IsTableOf items base old index address (it ∷ remaining) → Adds {E = E} (Ok false) it address old new
    → IsTableOf items base new (index + 1) (address + size_at address it) remaining
more E (item.Label name) items remaining base old new index address is adds = record {
  once = is.once ∙ ap (λ (t : Bool). cond t (Some index) (repeat_by (λ other. cond (bytes_eq name other) true (has old other)) (index + 1) remaining)) (sym adds.0)
      ∙ (λ i. repeat_by (λ other. (seen (bytes_eq name other) (address_in old other) ∙ ap is_some (sym (adds.1 other))) i) (index + 1) remaining);
  found = λ other. is.found other ∙ found other (bytes_eq name other) refl (address_in old other) refl (address_of (address + 0) remaining other)
      ∙ ap (λ (o : Option ℕ). or_later o (address_of (address + 0) remaining other)) (sym (adds.1 other));
}
  where
    seen : (test : Bool) (before : Option ℕ) → cond test true (is_some before) ≡ is_some (cond test (Some address) before)
    seen true before = refl
    seen false before = refl

    found : (other : List ℕ) (test : Bool) → bytes_eq name other ≡ test → (before : Option ℕ) → address_in old other ≡ before → (later : Option ℕ)
        → or_later before (cond test (Some address) later) ≡ or_later (cond test (Some address) before) later
    found other true is None old_is later = refl
    found other false is None old_is later = refl
    found other false is (Some at) old_is later = refl
    found other true is (Some at) old_is later =
        let same : name ≡ other = (bytes_eq-Decides name other).0 is in
        absurd (true≢false (sym (ap is_some old_is) ∙ sym (ap (has old) same) ∙ sym adds.0))
more E (item.Byte byte) items remaining base old new index address is adds = subst (λ (t : LabelMap). IsTableOf items base t (index + 1) (address + 1) remaining) (sym adds.1) (record { once = is.once; found = is.found })
more E (item.Word value kind name) items remaining base old new index address is adds = subst (λ (t : LabelMap). IsTableOf items base t (index + 1) (address + 4) remaining) (sym adds.1) (record { once = is.once; found = is.found })
more E (item.Rel name) items remaining base old new index address is adds = subst (λ (t : LabelMap). IsTableOf items base t (index + 1) (address + 4) remaining) (sym adds.1) (record { once = is.once; found = is.found })
more E (item.Gap one other) items remaining base old new index address is adds = subst (λ (t : LabelMap). IsTableOf items base t (index + 1) (address + 4) remaining) (sym adds.1) (record { once = is.once; found = is.found })
more E (item.Abs name) items remaining base old new index address is adds = subst (λ (t : LabelMap). IsTableOf items base t (index + 1) (address + 4) remaining) (sym adds.1) (record { once = is.once; found = is.found })
more E item.Pad items remaining base old new index address is adds = subst (λ (t : LabelMap). IsTableOf items base t (index + 1) (address + size_at address item.Pad) remaining) (sym adds.1) (record { once = is.once; found = is.found })

-- the table after all items
pub tabled : (items : List Item) (base : ℕ) (table : LabelMap) (index address : ℕ) → base ≤ most_address → length items ≤ most_items
    → IsTableOf items base table index address [] → Tables (Ok table) items base
tabled items base table index address low few is =
    let found : (name : List ℕ) → address_in table name ≡ address_of base items name
    = λ name. sym (is.found name ∙ last (address_in table name)) in (
      is.once,
      found,
      λ name. subst (λ (o : Option ℕ). IfSome o (λ at. at < 2 ^ 40)) (sym (found name)) (address-small items base (2 ^ 40) name (omega arith)),
    )
  where
    last : (before : Option ℕ) → or_later before None ≡ before
    last None = refl
    last (Some at) = refl
