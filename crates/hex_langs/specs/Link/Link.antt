-- Linking: the addresses of items and labels, and the bytes of items. Public source: the languages hex1 and hex2 of stage0-posix and
-- mescc-tools, whose exact rules here are this project's profile. The fields are those of the RISC-V Unprivileged ISA, "Immediate
-- Encoding Variants". docs/reference/linking.md says the same for people.
use Rattle.std.specs.Prelude.{◌≡◌, ℕ, ◌+◌, ◌-◌, ◌*◌, ◌/◌, ◌%◌, ◌==◌, bytes_eq, nat_lt, Bool, false, not, ◌&&◌, if◌then◌else◌, List, [], ◌∷◌, ◌++◌, replicate, Option, Some, None, Result, Ok, Err, bit_xor, ℤ, pos, neg_ℤ, ◌+ℤ◌, ◌-ℤ◌, int_lt, unsigned_abs}
use Rattle.std.specs.Int.{w32, to_le_bytes, int_rem_euclid}
use Rattle.std.specs.List.{list_any}
use Rattle.hex_langs.specs.declared.items.item.Kind.{Kind}
use Rattle.hex_langs.specs.declared.items.item.Kind.TheVariants.{I, B, J, U}
use Rattle.hex_langs.specs.declared.items.item.Item.{Item}
use Rattle.hex_langs.specs.declared.items.item.Item.TheVariants.{Byte, Label, Word, Rel, Gap, Abs, Pad}
use Rattle.hex_langs.specs.declared.items.reader.HexRefusal.{HexRefusal}
use Rattle.hex_langs.specs.declared.items.reader.HexRefusal.TheVariants as refusal
use Rattle.hex_langs.specs.Items.Labels.{label_in}
use Rattle.hex_langs.specs.declared.link.number.Miss.{Miss}
use Rattle.hex_langs.specs.declared.link.number.Miss.TheVariants.{NoLabel, OutOfReach}

-- the addresses of labels
abbrev pub Labels : Type 0
Labels = List ℕ → Option ℕ

abbrev pub pad_size : ℕ → ℕ
pad_size address = (4 - address % 4) % 4

-- the number of bytes of an item at an address
abbrev pub size_at : ℕ → Item → ℕ
size_at address (Byte byte) = 1
size_at address (Label name) = 0
size_at address Pad = pad_size address
size_at address it = 4

-- whether an item defines a name
abbrev pub defines : List ℕ → Item → Bool
defines name (Label other) = bytes_eq other name
defines name it = false

-- the address of the first of these items that defines a name
abbrev pub address_of : ℕ → List Item → List ℕ → Option ℕ
address_of address [] name = None
address_of address (it ∷ items) name =
    if defines name it then Some address
    else address_of (address + size_at address it) items name

-- whether an item defines a label that is among those seen
abbrev pub repeats : List (List ℕ) → Item → Bool
repeats seen (Label name) = list_any (bytes_eq name) seen
repeats seen it = false

-- the number of the first item that defines a label again; the labels seen are those of the items before
abbrev pub first_repeat : List (List ℕ) → ℕ → List Item → Option ℕ
first_repeat seen index [] = None
first_repeat seen index (it ∷ items) =
    if repeats seen it then Some index
    else first_repeat (seen ++ label_in it) (index + 1) items

-- ---- the numbers of items of four bytes

-- modulo 2^32
abbrev pub modulo_word : ℤ → ℕ
modulo_word z = unsigned_abs (int_rem_euclid z (pos 4294967296))

-- -2^31 <= d < 2^31
abbrev pub fits_word : ℤ → Bool
fits_word d = not (int_lt d (neg_ℤ (pos 2147483648))) && int_lt d (pos 2147483648)

-- a number, if it is in reach
abbrev pub in_reach : Bool → ℕ → Result ℕ Miss
in_reach fits n = if fits then Ok n else Err OutOfReach

-- bits 11..0 of an offset in bits 31..20
abbrev pub i_field : ℕ → ℕ
i_field d = d % 4096 * 1048576

-- bits 31..12 of an offset stay
abbrev pub upper_field : ℕ → ℕ
upper_field d = d / 4096 * 4096

-- bit 12 of an offset in bit 31, bits 10..5 in 30..25, bits 4..1 in 11..8, bit 11 in bit 7
abbrev pub b_field : ℕ → ℕ
b_field d = d / 4096 % 2 * 2147483648 + d / 32 % 64 * 33554432 + d / 2 % 16 * 256 + d / 2048 % 2 * 128

-- bit 20 of an offset in bit 31, bits 10..1 in 30..21, bit 11 in bit 20, bits 19..12 stay
abbrev pub j_field : ℕ → ℕ
j_field d = d / 1048576 % 2 * 2147483648 + d / 2 % 1024 * 2097152 + d / 2048 % 2 * 1048576 + d / 4096 % 256 * 4096

-- d is even, and -half <= d < half
abbrev pub fits_even : ℤ → ℕ → Bool
fits_even d half = modulo_word d % 2 == 0 && not (int_lt d (neg_ℤ (pos half))) && int_lt d (pos half)

-- a word's value with its label's distance in the field of its kind. The distance of an I counts from the U before it, four bytes
-- earlier. The upper part is rounded, since the lower one is signed
abbrev pub word_number : ℕ → Kind → ℤ → Result ℕ Miss
word_number value I d = Ok (bit_xor value (i_field (modulo_word (d +ℤ pos 4))))
word_number value B d = in_reach (fits_even d 4096) (bit_xor value (b_field (modulo_word d)))
word_number value J d = in_reach (fits_even d 1048576) (bit_xor value (j_field (modulo_word d)))
word_number value U d = in_reach (fits_word (d +ℤ pos 2048)) (bit_xor value (upper_field (modulo_word (d +ℤ pos 2048))))

-- a distance by itself
abbrev pub distance_number : ℤ → Result ℕ Miss
distance_number d = in_reach (fits_word d) (modulo_word d)

-- the result for the address of a defined label; `NoLabel` without a definition
abbrev pub with_label : Option ℕ → (ℕ → Result ℕ Miss) → Result ℕ Miss
with_label (Some at) rest = rest at
with_label None rest = Err NoLabel

-- the number of an item of four bytes at an address, by the addresses of labels; 0 for any other item
abbrev pub written_number : Labels → ℕ → Item → Result ℕ Miss
written_number labels p (Word value kind x) = with_label (labels x) (λ at. word_number value kind (pos at -ℤ pos p))
written_number labels p (Rel x) = with_label (labels x) (λ at. distance_number (pos at -ℤ pos p -ℤ pos 4))
written_number labels p (Gap x y) = with_label (labels x) (λ at. with_label (labels y) (λ from. distance_number (pos at -ℤ pos from)))
written_number labels p (Abs x) = with_label (labels x) (λ at. in_reach (nat_lt at 4294967296) at)
written_number labels p it = Ok 0

-- ---- bytes

-- a number as four bytes, the low one first
abbrev pub four : Result ℕ Miss → Result (List ℕ) Miss
four (Ok n) = Ok (to_le_bytes w32 n)
four (Err miss) = Err miss

-- the bytes of an item at an address
abbrev pub item_bytes : Labels → ℕ → Item → Result (List ℕ) Miss
item_bytes labels p (Byte byte) = Ok (byte ∷ [])
item_bytes labels p (Label name) = Ok []
item_bytes labels p Pad = Ok (replicate (pad_size p) 0)
item_bytes labels p it = four (written_number labels p it)

-- the refusal at an item
abbrev pub refused : Miss → ℕ → HexRefusal
refused NoLabel index = refusal.NoLabel index
refused OutOfReach index = refusal.OutOfReach index

-- these bytes in front of the result
abbrev pub onto : List ℕ → Result (List ℕ) HexRefusal → Result (List ℕ) HexRefusal
onto prefix (Ok bytes) = Ok (prefix ++ bytes)
onto prefix (Err why) = Err why

-- the bytes of one item in front of the rest, or its refusal
abbrev pub appended : Result (List ℕ) Miss → ℕ → Result (List ℕ) HexRefusal → Result (List ℕ) HexRefusal
appended (Ok bytes) index later = onto bytes later
appended (Err miss) index later = Err (refused miss index)

-- the bytes of items, the first of which has this address and number
abbrev pub bytes_from : Labels → ℕ → ℕ → List Item → Result (List ℕ) HexRefusal
bytes_from labels address index [] = Ok []
bytes_from labels address index (it ∷ items) =
    appended (item_bytes labels address it) index (bytes_from labels (address + size_at address it) (index + 1) items)

-- the refusal of a label that is defined again precedes every other result
abbrev pub unless_repeat : Option ℕ → Result (List ℕ) HexRefusal → Result (List ℕ) HexRefusal
unless_repeat (Some index) later = Err (refusal.DoubleLabel index)
unless_repeat None later = later

-- the bytes of items at a base, or the first refusal
unfoldable pub link_of : List Item → ℕ → Result (List ℕ) HexRefusal
link_of items base = unless_repeat (first_repeat [] 0 items) (bytes_from (address_of base items) base 0 items)

-- the answer of linking: this result, or out of memory
abbrev pub Links : Result (List ℕ) HexRefusal → Result (List ℕ) HexRefusal → Type 0
Links (Err refusal.OutOfMemory) meant = Unit {0}
Links result meant = result ≡ meant
