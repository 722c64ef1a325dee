-- What linking does not depend on.
use Rattle.std.proofs.Common.{◌≡◌, ℕ, ◌+◌, ◌≤◌, Bool, true, false, cond, List, [], ◌∷◌, ◌++◌, length, map, length-append, Option, Some, None, Result, Ok, Err, IsTrue, refl, sym, ap, ◌∙◌, arith}
use Rattle.std.specs.List.{list_all, list_any}
use Rattle.std.proofs.lemmas.Slice.Eq.{bytes_eq-Decides}
use Rattle.ddc_base.specs.Limits.{most_source}
use Rattle.hex_langs.specs.declared.items.item.Item.{Item}
use Rattle.hex_langs.specs.declared.items.item.Item.TheVariants.{Byte, Label, Word, Rel, Gap, Abs, Pad}
use Rattle.hex_langs.specs.declared.items.reader.HexRefusal.{HexRefusal}
use Rattle.hex_langs.specs.declared.link.number.Miss.{Miss}
use Rattle.hex_langs.specs.declared.items.token.Dialect.TheVariants as dialect
use Rattle.hex_langs.specs.Hex0.{HasEvenDigits, hex0_of}
use Rattle.hex_langs.specs.Items.Plain.{is_plain}
use Rattle.hex_langs.proofs.ItemsLemmas.PlainSources.{plain-items}
use Rattle.hex_langs.specs.declared.link.values.HexLanguage.{HexLanguage}
use Rattle.hex_langs.specs.declared.link.values.HexLanguage.TheVariants.{Hex0, Hex1, Hex2}
use Rattle.hex_langs.specs.Link.Values.{linked, value_of}
use Rattle.hex_langs.specs.Link.Laws.{address_after, is_fixed, KeepsApart, renamed}
use Rattle.std.specs.Prelude.{bytes_eq}
use Rattle.hex_langs.specs.Items.Labels.{label_in}
use Rattle.hex_langs.specs.Link.Link.{address_of, appended, item_bytes, defines, first_repeat, bytes_from, Labels, link_of, onto, repeats, size_at, unless_repeat}
use Rattle.hex_langs.proofs.LinkLemmas.Joins.{bytes-size}

-- ---- bases

joined-fixed : (labels others : Labels) (address elsewhere index : ℕ) (items : List Item) → IsTrue (list_all is_fixed items)
    → bytes_from labels address index items ≡ bytes_from others elsewhere index items
joined-fixed labels others address elsewhere index [] fixed = refl
joined-fixed labels others address elsewhere index (Byte byte ∷ items) fixed =
    ap (onto (byte ∷ [])) (joined-fixed labels others (address + 1) (elsewhere + 1) (index + 1) items fixed)
joined-fixed labels others address elsewhere index (Label name ∷ items) fixed =
    ap (onto []) (joined-fixed labels others (address + 0) (elsewhere + 0) (index + 1) items fixed)
joined-fixed labels others address elsewhere index (Word value kind name ∷ items) fixed = absurd (cc)
joined-fixed labels others address elsewhere index (Rel name ∷ items) fixed = absurd (cc)
joined-fixed labels others address elsewhere index (Gap name other ∷ items) fixed = absurd (cc)
joined-fixed labels others address elsewhere index (Abs name ∷ items) fixed = absurd (cc)
joined-fixed labels others address elsewhere index (Pad ∷ items) fixed = absurd (cc)

pub same-at-every-base : (items : List Item) → IsTrue (list_all is_fixed items) → (base other : ℕ) → link_of items base ≡ link_of items other
unfolding link_of
same-at-every-base items fixed base other =
    ap (unless_repeat (first_repeat [] 0 items)) (joined-fixed (address_of base items) (address_of other items) base other 0 items fixed)

-- ---- sizes

onto-ok : (prefix bytes : List ℕ) (later : Result (List ℕ) HexRefusal) → onto prefix later ≡ Ok bytes
    → (rest : List ℕ) × (later ≡ Ok rest) × (bytes ≡ prefix ++ rest)
onto-ok prefix bytes (Ok rest) is = (rest, refl, let same : prefix ++ rest ≡ bytes = cc in sym same)
onto-ok prefix bytes (Err why) is = absurd (cc)

appended-ok : (bytes : List ℕ) (own : Result (List ℕ) Miss) (index : ℕ) (later : Result (List ℕ) HexRefusal) → appended own index later ≡ Ok bytes
    → (prefix : List ℕ) × (own ≡ Ok prefix) × (onto prefix later ≡ Ok bytes)
appended-ok bytes (Ok prefix) index later is = (prefix, refl, is)
appended-ok bytes (Err miss) index later is = absurd (cc)

joined-size : (labels : Labels) (address index : ℕ) (items : List Item) (bytes : List ℕ) → bytes_from labels address index items ≡ Ok bytes
    → address + length bytes ≡ address_after address items
joined-size labels address index [] bytes is = let same : [] ≡ bytes = cc in omega (arith, ap length same)
joined-size labels address index (it ∷ items) bytes is =
    let prefix = appended-ok bytes (item_bytes labels address it) index (bytes_from labels (address + size_at address it) (index + 1) items) is in
    let rest = onto-ok prefix.0 bytes (bytes_from labels (address + size_at address it) (index + 1) items) prefix.2 in
    let own = bytes-size labels address it prefix.0 prefix.1 in
    let later = joined-size labels (address + size_at address it) (index + 1) items rest.0 rest.1 in
    omega (arith, own, later, ap length rest.2, length-append prefix.0 rest.0)

unless-ok : (repeat : Option ℕ) (later : Result (List ℕ) HexRefusal) (bytes : List ℕ) → unless_repeat repeat later ≡ Ok bytes → later ≡ Ok bytes
unless-ok None later bytes is = is
unless-ok (Some index) later bytes is = absurd (cc)

pub bytes-end-appended-the-last : (items : List Item) (base : ℕ) (bytes : List ℕ) → link_of items base ≡ Ok bytes → base + length bytes ≡ address_after base items
unfolding link_of
bytes-end-appended-the-last items base bytes is =
    joined-size (address_of base items) base 0 items bytes (unless-ok (first_repeat [] 0 items) (bytes_from (address_of base items) base 0 items) bytes is)

-- ---- names

bool-same : (a b : Bool) → (a ≡ true → b ≡ true) → (b ≡ true → a ≡ true) → a ≡ b
bool-same true b to from = sym (to refl)
bool-same false true to from = from refl
bool-same false false to from = refl

bytes_eq-renamed : (rename : List ℕ → List ℕ) → KeepsApart rename → (a b : List ℕ) → bytes_eq (rename a) (rename b) ≡ bytes_eq a b
bytes_eq-renamed rename apart a b =
    bool-same (bytes_eq (rename a) (rename b)) (bytes_eq a b)
    (λ is. (bytes_eq-Decides a b).1 (apart a b ((bytes_eq-Decides (rename a) (rename b)).0 is)))
    (λ is. (bytes_eq-Decides (rename a) (rename b)).1 (ap rename ((bytes_eq-Decides a b).0 is)))

size-renamed : (rename : List ℕ → List ℕ) (address : ℕ) (it : Item) → size_at address (renamed rename it) ≡ size_at address it
size-renamed rename address (Byte byte) = refl
size-renamed rename address (Label name) = refl
size-renamed rename address (Word value kind name) = refl
size-renamed rename address (Rel name) = refl
size-renamed rename address (Gap name other) = refl
size-renamed rename address (Abs name) = refl
size-renamed rename address Pad = refl

defines-renamed : (rename : List ℕ → List ℕ) → KeepsApart rename → (name : List ℕ) (it : Item)
    → defines (rename name) (renamed rename it) ≡ defines name it
defines-renamed rename apart name (Byte byte) = refl
defines-renamed rename apart name (Label other) = bytes_eq-renamed rename apart other name
defines-renamed rename apart name (Word value kind other) = refl
defines-renamed rename apart name (Rel other) = refl
defines-renamed rename apart name (Gap other second) = refl
defines-renamed rename apart name (Abs other) = refl
defines-renamed rename apart name Pad = refl

address-renamed : (rename : List ℕ → List ℕ) → KeepsApart rename → (address : ℕ) (items : List Item) (name : List ℕ)
    → address_of address (map (renamed rename) items) (rename name) ≡ address_of address items name
address-renamed rename apart address [] name = refl
address-renamed rename apart address (it ∷ items) name =
    ap (λ (here : Bool). cond here (Some address) (address_of (address + size_at address (renamed rename it)) (map (renamed rename) items) (rename name)))
    (defines-renamed rename apart name it)
    ∙ ap (λ (size : ℕ). cond (defines name it) (Some address) (address_of (address + size) (map (renamed rename) items) (rename name))) (size-renamed rename address it)
    ∙ ap (cond (defines name it) (Some address)) (address-renamed rename apart (address + size_at address it) items name)

any-renamed : (rename : List ℕ → List ℕ) → KeepsApart rename → (name : List ℕ) (seen : List (List ℕ))
    → list_any (bytes_eq (rename name)) (map rename seen) ≡ list_any (bytes_eq name) seen
any-renamed rename apart name [] = refl
any-renamed rename apart name (other ∷ seen) =
    rw (bytes_eq-renamed rename apart name other) (rw (any-renamed rename apart name seen) refl)

repeats-renamed : (rename : List ℕ → List ℕ) → KeepsApart rename → (seen : List (List ℕ)) (it : Item)
    → repeats (map rename seen) (renamed rename it) ≡ repeats seen it
repeats-renamed rename apart seen (Byte byte) = refl
repeats-renamed rename apart seen (Label name) = any-renamed rename apart name seen
repeats-renamed rename apart seen (Word value kind name) = refl
repeats-renamed rename apart seen (Rel name) = refl
repeats-renamed rename apart seen (Gap name other) = refl
repeats-renamed rename apart seen (Abs name) = refl
repeats-renamed rename apart seen Pad = refl

label-renamed : (rename : List ℕ → List ℕ) (it : Item) → label_in (renamed rename it) ≡ map rename (label_in it)
label-renamed rename (Byte byte) = refl
label-renamed rename (Label name) = refl
label-renamed rename (Word value kind name) = refl
label-renamed rename (Rel name) = refl
label-renamed rename (Gap name other) = refl
label-renamed rename (Abs name) = refl
label-renamed rename Pad = refl

map-append : (rename : List ℕ → List ℕ) (a b : List (List ℕ)) → map rename a ++ map rename b ≡ map rename (a ++ b)
map-append rename [] b = refl
map-append rename (x ∷ a) b = ap (λ (l : List (List ℕ)). rename x ∷ l) (map-append rename a b)

repeat-renamed : (rename : List ℕ → List ℕ) → KeepsApart rename → (seen : List (List ℕ)) (index : ℕ) (items : List Item)
    → first_repeat (map rename seen) index (map (renamed rename) items) ≡ first_repeat seen index items
repeat-renamed rename apart seen index [] = refl
repeat-renamed rename apart seen index (it ∷ items) =
    ap (λ (here : Bool). cond here (Some index) (first_repeat (map rename seen ++ label_in (renamed rename it)) (index + 1) (map (renamed rename) items)))
    (repeats-renamed rename apart seen it)
    ∙ ap (λ (more : List (List ℕ)). cond (repeats seen it) (Some index) (first_repeat more (index + 1) (map (renamed rename) items)))
    (ap (λ (own : List (List ℕ)). map rename seen ++ own) (label-renamed rename it) ∙ map-append rename seen (label_in it))
    ∙ ap (cond (repeats seen it) (Some index)) (repeat-renamed rename apart (seen ++ label_in it) (index + 1) items)

-- the same addresses under both names give the same bytes
bytes-renamed : (rename : List ℕ → List ℕ) (labels others : Labels) → ((name : List ℕ) → others (rename name) ≡ labels name)
    → (address : ℕ) (it : Item) → item_bytes others address (renamed rename it) ≡ item_bytes labels address it
bytes-renamed rename labels others same address (Byte byte) = refl
bytes-renamed rename labels others same address (Label name) = refl
bytes-renamed rename labels others same address (Word value kind name) = rw (same name) refl
bytes-renamed rename labels others same address (Rel name) = rw (same name) refl
bytes-renamed rename labels others same address (Gap name other) = rw (same name) (rw (same other) refl)
bytes-renamed rename labels others same address (Abs name) = rw (same name) refl
bytes-renamed rename labels others same address Pad = refl

joined-renamed : (rename : List ℕ → List ℕ) (labels others : Labels) → ((name : List ℕ) → others (rename name) ≡ labels name)
    → (address index : ℕ) (items : List Item) → bytes_from others address index (map (renamed rename) items) ≡ bytes_from labels address index items
joined-renamed rename labels others same address index [] = refl
joined-renamed rename labels others same address index (it ∷ items) =
    ap (λ (own : Result (List ℕ) Miss). appended own index (bytes_from others (address + size_at address (renamed rename it)) (index + 1) (map (renamed rename) items)))
    (bytes-renamed rename labels others same address it)
    ∙ ap (λ (size : ℕ). appended (item_bytes labels address it) index (bytes_from others (address + size) (index + 1) (map (renamed rename) items))) (size-renamed rename address it)
    ∙ ap (appended (item_bytes labels address it) index) (joined-renamed rename labels others same (address + size_at address it) (index + 1) items)

pub names-do-not-matter : (rename : List ℕ → List ℕ) → KeepsApart rename → (items : List Item) (base : ℕ)
    → link_of (map (renamed rename) items) base ≡ link_of items base
unfolding link_of
names-do-not-matter rename apart items base =
    ap (λ (repeat : Option ℕ). unless_repeat repeat (bytes_from (address_of base (map (renamed rename) items)) base 0 (map (renamed rename) items)))
    (repeat-renamed rename apart [] 0 items)
    ∙ ap (unless_repeat (first_repeat [] 0 items))
    (joined-renamed rename (address_of base items) (address_of base (map (renamed rename) items)) (address-renamed rename apart base items) base 0 items)

-- ---- bytes alone

no-repeat : (index : ℕ) (bytes : List ℕ) → first_repeat [] index (map Byte bytes) ≡ None
no-repeat index [] = refl
no-repeat index (byte ∷ bytes) = no-repeat (index + 1) bytes

joined-bytes : (labels : Labels) (address index : ℕ) (bytes : List ℕ) → bytes_from labels address index (map Byte bytes) ≡ Ok bytes
joined-bytes labels address index [] = refl
joined-bytes labels address index (byte ∷ bytes) = ap (onto (byte ∷ [])) (joined-bytes labels (address + 1) (index + 1) bytes)

link-bytes : (bytes : List ℕ) (base : ℕ) → link_of (map Byte bytes) base ≡ Ok bytes
unfolding link_of
link-bytes bytes base =
    ap (λ (repeat : Option ℕ). unless_repeat repeat (bytes_from (address_of base (map Byte bytes)) base 0 (map Byte bytes))) (no-repeat 0 bytes)
    ∙ joined-bytes (address_of base (map Byte bytes)) base 0 bytes

linked-bytes : (base : ℕ) (items : Result (List Item) HexRefusal) (bytes : List ℕ) → items ≡ Ok (map Byte bytes) → linked base items ≡ Ok bytes
linked-bytes base items bytes is = ap (linked base) is ∙ link-bytes bytes base

pub plain-values : (language : HexLanguage) (base : ℕ) (source : List ℕ) → length source ≤ most_source → IsTrue (is_plain source) → HasEvenDigits source
    → value_of language base source ≡ Ok (hex0_of source)
plain-values Hex0 base source short plain even = refl
plain-values Hex1 base source short plain even = linked-bytes base _ (hex0_of source) (plain-items dialect.Hex1 source short plain even)
plain-values Hex2 base source short plain even = linked-bytes base _ (hex0_of source) (plain-items dialect.Hex2 source short plain even)
