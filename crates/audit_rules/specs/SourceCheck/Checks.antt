-- Whether an artefact is what a source stands for in its language. docs/reference/audit.md says the same for people.
use Rattle.std.specs.Prelude.{ℕ, suc, Bool, true, false, ◌==◌, ◌&&◌, bytes_eq, if◌then◌else◌, Option, None, Some, Result, Ok, Err, List, [], ◌∷◌}
use Rattle.std.specs.List.{join_with_byte}
use Rattle.std.specs.Option.{option_map}
use Rattle.ddc_base.specs.Difference.{first_difference}
use Rattle.ddc_base.specs.declared.languages.Language.{Language}
use Rattle.ddc_base.specs.declared.languages.Language.TheVariants.{Hex0, Hex1, Hex2, M1}
use Rattle.hex_langs.specs.declared.items.item.Item.{Item}
use Rattle.hex_langs.specs.declared.items.item.Item.TheVariants as item
use Rattle.hex_langs.specs.declared.items.item.Kind.{Kind}
use Rattle.hex_langs.specs.declared.items.item.Kind.TheVariants.{I, B, J, U}
use Rattle.hex_langs.specs.declared.items.reader.HexRefusal.{HexRefusal}
use Rattle.hex_langs.specs.declared.items.token.Dialect.TheVariants as dialect
use Rattle.hex_langs.specs.Items.Reading.{items_of}
use Rattle.hex_langs.specs.declared.link.values.HexLanguage.TheVariants as hex
use Rattle.hex_langs.specs.Link.Values.{value_of as bytes_in}
use Rattle.m1_lang.specs.declared.refusal.M1Refusal.{M1Refusal}
use Rattle.m1_lang.specs.Expansion.{expansion_of}
use Rattle.audit_rules.specs.declared.source_check.cause.CheckCause.{CheckCause}
use Rattle.audit_rules.specs.declared.source_check.cause.CheckCause.TheVariants as cause
use Rattle.audit_rules.specs.SourceCheck.Causes.{cause_of_hex, cause_of_m1}

-- the text of a source's files: one LF between neighbours
abbrev pub joined_files : List (List ℕ) → List ℕ
joined_files files = join_with_byte 10 files

-- what a source stands for: bytes, or for M1 items that are not yet placed at a base
pub data SourceValue : Type 0 where
  ValueBytes : List ℕ → SourceValue
  ValueItems : List Item → SourceValue

abbrev pub hex_value : Result (List ℕ) HexRefusal → Result SourceValue CheckCause
hex_value (Ok bytes) = Ok (ValueBytes bytes)
hex_value (Err why) = Err (cause.Hex (cause_of_hex why))

abbrev pub m1_value : Result (List Item) M1Refusal → Result SourceValue CheckCause
m1_value (Ok items) = Ok (ValueItems items)
m1_value (Err why) = Err (cause.M1 (cause_of_m1 why))

-- the value of a source in a language at a base, or the language's refusal; hex0 and M1 use no base
abbrev pub source_value_of : Language → ℕ → List ℕ → Result SourceValue CheckCause
source_value_of Hex0 base source = hex_value (bytes_in hex.Hex0 base source)
source_value_of Hex1 base source = hex_value (bytes_in hex.Hex1 base source)
source_value_of Hex2 base source = hex_value (bytes_in hex.Hex2 base source)
source_value_of M1 base source = m1_value (expansion_of source)

-- whether two items are the same
abbrev pub same_kind : Kind → Kind → Bool
same_kind I I = true
same_kind B B = true
same_kind J J = true
same_kind U U = true
same_kind _ _ = false

unfoldable pub same_item : Item → Item → Bool
same_item (item.Byte a) (item.Byte b) = a == b
same_item (item.Label x) (item.Label y) = bytes_eq x y
same_item (item.Word a j x) (item.Word b k y) = a == b && same_kind j k && bytes_eq x y
same_item (item.Rel x) (item.Rel y) = bytes_eq x y
same_item (item.Gap x z) (item.Gap y w) = bytes_eq x y && bytes_eq z w
same_item (item.Abs x) (item.Abs y) = bytes_eq x y
same_item item.Pad item.Pad = true
same_item _ _ = false

-- the number, from 0, of the first item at which two lists differ or exactly one has ended; None if they are equal
abbrev pub first_other_item : List Item → List Item → Option ℕ
first_other_item [] [] = None
first_other_item [] (y ∷ ys) = Some 0
first_other_item (x ∷ xs) [] = Some 0
first_other_item (x ∷ xs) (y ∷ ys) = if same_item x y then option_map suc (first_other_item xs ys) else Some 0

-- nothing is wrong, or the first difference is here
abbrev pub differs : Option ℕ → Option CheckCause
differs None = None
differs (Some offset) = Some (cause.Differs offset)

-- what is wrong with the items of an artefact's text, compared with these
abbrev pub items_against : List Item → Result (List Item) HexRefusal → Option CheckCause
items_against items (Ok found) = differs (first_other_item items found)
items_against items (Err why) = Some (cause.NotItems (cause_of_hex why))

-- what is wrong with an artefact, compared with a value. Bytes are compared as they are. Against items the artefact is read as a hex2 text
-- in any layout, which is what M1's assembler writes
abbrev pub value_against : SourceValue → List ℕ → Option CheckCause
value_against (ValueBytes value) made = differs (first_difference value made)
value_against (ValueItems items) made = items_against items (items_of dialect.Hex2 made)

abbrev pub checked : Result SourceValue CheckCause → List ℕ → Option CheckCause
checked (Err why) made = Some why
checked (Ok value) made = value_against value made

-- what is wrong with an artefact, of a source in a language at a base: the language's refusal; for M1 the refusal of the artefact's own
-- items; or the first difference. None if nothing is
unfoldable pub check : Language → ℕ → List ℕ → List ℕ → Option CheckCause
check language base source made = checked (source_value_of language base source) made
