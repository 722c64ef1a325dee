-- What putting one item's bytes does to what is left.
use Rattle.std.proofs.Common.{◌≡◌, ℕ, ◌+◌, ◌≤◌, List, [], ◌∷◌, ◌++◌, length, append_assoc, length-append, Option, Result, Ok, Err, refl, sym, ap, subst, ◌∙◌, arith}
use Rattle.std.proofs.lemmas.List.{length-replicate}
use Rattle.std.specs.Prelude.{IsErrAnd, replicate}
use Rattle.std.specs.Int.{w32, to_le_bytes}
use Rattle.hex_langs.specs.declared.items.item.Item.{Item}
use Rattle.hex_langs.specs.declared.items.item.Item.TheVariants.{Byte, Label, Word, Rel, Gap, Abs, Pad}
use Rattle.hex_langs.specs.declared.items.reader.HexRefusal.{HexRefusal}
use Rattle.hex_langs.specs.declared.items.reader.HexRefusal.TheVariants as refusal
use Rattle.hex_langs.specs.declared.link.number.Miss.{Miss}
use Rattle.hex_langs.specs.Link.Link.{address_of, appended, item_bytes, four, bytes_from, Labels, link_of, Links, onto, pad_size, refused, size_at, unless_repeat}
use Rattle.hex_langs.specs.Link.Representation.Tables.{address_in, LabelMap, Puts, Tables}

pub puts-ok : (meant : Result (List ℕ) Miss) (old new : List ℕ) → Puts (Ok tt) meant old new
    → (bytes : List ℕ) × (meant ≡ Ok bytes) × (new ≡ old ++ bytes)
puts-ok (Ok bytes) old new puts = (bytes, refl, puts)
puts-ok (Err miss) old new puts = absurd puts

four-size : (in_reach : Result ℕ Miss) (bytes : List ℕ) → four in_reach ≡ Ok bytes → length bytes ≡ 4
four-size (Ok n) bytes is = let same : to_le_bytes w32 n ≡ bytes = cc in sym (ap length same)
four-size (Err miss) bytes is = absurd (cc)

pub bytes-size : (labels : Labels) (address : ℕ) (it : Item) (bytes : List ℕ) → item_bytes labels address it ≡ Ok bytes → length bytes ≡ size_at address it
bytes-size labels address (Byte byte) bytes is = let same : byte ∷ [] ≡ bytes = cc in sym (ap length same)
bytes-size labels address (Label name) bytes is = let same : [] ≡ bytes = cc in sym (ap length same)
bytes-size labels address Pad bytes is = let same : replicate (pad_size address) 0 ≡ bytes = cc in sym (ap length same) ∙ length-replicate {A = ℕ} (pad_size address) 0
bytes-size labels address (Word value kind name) bytes is = four-size _ bytes is
bytes-size labels address (Rel name) bytes is = four-size _ bytes is
bytes-size labels address (Gap name other) bytes is = four-size _ bytes is
bytes-size labels address (Abs name) bytes is = four-size _ bytes is

onto-twice : (prefix more : List ℕ) (later : Result (List ℕ) HexRefusal) → onto prefix (onto more later) ≡ onto (prefix ++ more) later
onto-twice prefix more (Ok bytes) = ap Ok (sym (append_assoc prefix more bytes))
onto-twice prefix more (Err why) = refl

pub size-small : (address : ℕ) (it : Item) → size_at address it ≤ 4
size-small address (Byte byte) = omega arith
size-small address (Label name) = omega arith
size-small address Pad = omega arith
size-small address (Word value kind name) = omega arith
size-small address (Rel name) = omega arith
size-small address (Gap name other) = omega arith
size-small address (Abs name) = omega arith

-- the whole, one item on
pub joined-more : (labels : Labels) (base index : ℕ) (it : Item) (remaining : List Item) (old new : List ℕ) (whole : Result (List ℕ) HexRefusal)
    → whole ≡ onto old (bytes_from labels (base + length old) index (it ∷ remaining))
    → Puts (Ok tt) (item_bytes labels (base + length old) it) old new
    → (whole ≡ onto new (bytes_from labels (base + length new) (index + 1) remaining)) × (length new ≤ length old + 4)
joined-more labels base index it remaining old new whole is puts =
    let put = puts-ok (item_bytes labels (base + length old) it) old new puts in
    let size = bytes-size labels (base + length old) it put.0 put.1 in
    let length_is : length new ≡ length old + length put.0 = ap length put.2 ∙ length-append old put.0 in
    let next_is : base + length old + size_at (base + length old) it ≡ base + length new = omega (arith, size, length_is) in
    let rest = bytes_from labels (base + length old + size_at (base + length old) it) (index + 1) remaining in (
      is ∙ ap (λ (b : Result (List ℕ) Miss). onto old (appended b index rest)) put.1
          ∙ onto-twice old put.0 rest
          ∙ ap (λ (bytes : List ℕ). onto bytes rest) (sym put.2)
          ∙ ap (λ (n : ℕ). onto new (bytes_from labels n (index + 1) remaining)) next_is,
      omega (arith, size, length_is, size-small (base + length old) it),
    )

-- at an item that has no bytes
pub joined-refused : (labels : Labels) (base index : ℕ) (it : Item) (remaining : List Item) (old : List ℕ) (miss : Miss) (whole : Result (List ℕ) HexRefusal)
    → whole ≡ onto old (bytes_from labels (base + length old) index (it ∷ remaining))
    → item_bytes labels (base + length old) it ≡ Err miss → whole ≡ Err (refused miss index)
joined-refused labels base index it remaining old miss whole is none =
    is ∙ ap (λ (b : Result (List ℕ) Miss). onto old (appended b index (bytes_from labels (base + length old + size_at (base + length old) it) (index + 1) remaining))) none

-- ---- the whole

-- where the labels fail, linking does
pub links-refused : (why : HexRefusal) (items : List Item) (base : ℕ) → Tables (Err why) items base → Links (Err why) (link_of items base)
unfolding link_of
links-refused refusal.OutOfMemory items base tables = tt
links-refused (refusal.DoubleLabel index) items base tables = sym (ap (λ (o : Option ℕ). unless_repeat o (bytes_from (address_of base items) base 0 items)) tables)
links-refused (refusal.OddDigits at) items base tables = absurd tables
links-refused (refusal.BadField at) items base tables = absurd tables
links-refused (refusal.Dangling at) items base tables = absurd tables
links-refused (refusal.NoLabel at) items base tables = absurd tables
links-refused (refusal.OutOfReach at) items base tables = absurd tables
links-refused refusal.TooLong items base tables = absurd tables

-- by the labels of the table as by those of the items
pub links-joined : (table : LabelMap) (items : List Item) (base : ℕ) → Tables (Ok table) items base
    → bytes_from (address_in table) base 0 items ≡ link_of items base
unfolding link_of
links-joined table items base tables =
    let labels : address_in table ≡ address_of base items = λ i name. tables.1 name i in
    ap (λ (l : Labels). bytes_from l base 0 items) labels
    ∙ sym (ap (λ (o : Option ℕ). unless_repeat o (bytes_from (address_of base items) base 0 items)) tables.0)

-- a refusal that `?` hands on
pub links-passed : (why : HexRefusal) (result meant : Result (List ℕ) HexRefusal) → IsErrAnd result (λ e. e ≡ why) → Links (Err why) meant → Links result meant
links-passed why (Ok bytes) meant is links = absurd is
links-passed why (Err same) meant is links = subst (λ (w : HexRefusal). Links (Err w) meant) (sym is) links

pub links-by : (result meant same : Result (List ℕ) HexRefusal) → Links result meant → meant ≡ same → Links result same
links-by result meant same links is = subst (λ (m : Result (List ℕ) HexRefusal). Links result m) is links
