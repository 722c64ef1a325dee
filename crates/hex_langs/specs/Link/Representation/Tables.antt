-- Definitions for the table of labels and the pass over the items. To read the promises, this file is not needed.
use Rattle.std.specs.Prelude.{◌≡◌, ℕ, ◌+◌, ◌^◌, ◌<◌, bytes_eq, Bool, true, false, if◌then◌else◌, List, [], ◌∷◌, ◌++◌, Option, Some, None, IfSome, is_some, Result, Ok, Err}
use Rattle.hex_langs.specs.declared.items.item.Item.{Item}
use Rattle.hex_langs.specs.declared.items.item.Item.TheVariants as item
use Rattle.hex_langs.specs.declared.items.reader.HexRefusal.{HexRefusal}
use Rattle.hex_langs.specs.declared.items.reader.HexRefusal.TheVariants as refusal
use Rattle.hex_langs.specs.declared.link.joining.JoinFail.{JoinFail}
use Rattle.hex_langs.specs.declared.link.joining.JoinFail.TheVariants as put
use Rattle.indexmap.specs.IndexMap.{IndexMap, get}
use Rattle.ddc_base.specs.declared.name_tables.NamesKey.{NamesKey}
use Rattle.hex_langs.specs.declared.link.number.Miss.{Miss}
use Rattle.hex_langs.specs.Link.Link.{Labels, address_of, first_repeat}

-- a table of labels
abbrev pub LabelMap : Type 0
LabelMap = IndexMap (List ℕ) ℕ NamesKey

-- the addresses are below 2^40, so that distances fit 64 bits
abbrev pub AreSmall : Labels → Type 0
AreSmall labels = (name : List ℕ) → IfSome (labels name) (λ at. at < 2 ^ 40)

-- the addresses in a table
abbrev pub address_in : LabelMap → Labels
address_in table name = get bytes_eq table name

-- the number of the first item that defines a label already seen or defined by an earlier item
abbrev pub repeat_by : (List ℕ → Bool) → ℕ → List Item → Option ℕ
repeat_by seen index [] = None
repeat_by seen index (item.Label name ∷ items) =
    if seen name then Some index else repeat_by (λ other. if bytes_eq name other then true else seen other) (index + 1) items
repeat_by seen index (it ∷ items) = repeat_by seen (index + 1) items

-- whether a table has a name
abbrev pub has : LabelMap → List ℕ → Bool
has table name = is_some (address_in table name)

-- adding the label of an item at an address: whether its name was in the table, and the table afterwards
abbrev pub Adds : {E : Type 0} → Result Bool E → Item → ℕ → LabelMap → LabelMap → Type 0
Adds (Ok again) (item.Label name) address old new =
    (again ≡ has old name) × ((other : List ℕ) → address_in new other ≡ (if bytes_eq name other then Some address else address_in old other))
Adds (Ok again) it address old new = (again ≡ false) × (new ≡ old)
Adds (Err wanting) it address old new = Unit {0}

-- the table of labels has the address of each, if none is defined again
abbrev pub Tables : Result LabelMap HexRefusal → List Item → ℕ → Type 0
Tables (Ok table) items base =
    (first_repeat [] 0 items ≡ None) × ((name : List ℕ) → address_in table name ≡ address_of base items name) × AreSmall (address_in table)
Tables (Err refusal.OutOfMemory) items base = Unit {0}
Tables (Err (refusal.DoubleLabel index)) items base = first_repeat [] 0 items ≡ Some index
Tables (Err other) items base = ⊥

-- the answer of writing an item, and its effect
abbrev pub Puts : Result (Unit {0}) JoinFail → Result (List ℕ) Miss → List ℕ → List ℕ → Type 0
Puts (Err put.OutOfMemory) meant old new = Unit {0}
Puts (Err (put.Miss miss)) meant old new = meant ≡ Err miss
Puts (Ok done) (Ok bytes) old new = new ≡ old ++ bytes
Puts (Ok done) (Err miss) old new = ⊥
