-- The value of a source: the bytes that it stands for in its language, hex0, hex1 or hex2 of stage0-posix and mescc-tools.
-- docs/reference/linking.md says the same for people.
use Rattle.std.specs.Prelude.{ℕ, List, Result, Ok, Err}
use Rattle.hex_langs.specs.declared.items.item.Item.{Item}
use Rattle.hex_langs.specs.declared.items.reader.HexRefusal.{HexRefusal}
use Rattle.hex_langs.specs.declared.items.token.Dialect.TheVariants as dialect
use Rattle.hex_langs.specs.Hex0.{hex0_of}
use Rattle.hex_langs.specs.Items.Reading.{items_of}
use Rattle.hex_langs.specs.declared.link.values.HexLanguage.{HexLanguage}
use Rattle.hex_langs.specs.declared.link.values.HexLanguage.TheVariants.{Hex0, Hex1, Hex2}
use Rattle.hex_langs.specs.Link.Link.{link_of}

-- the items of a source, if it has any, linked at a base
abbrev pub linked : ℕ → Result (List Item) HexRefusal → Result (List ℕ) HexRefusal
linked base (Ok items) = link_of items base
linked base (Err why) = Err why

-- the value of a source at a base; hex0 ignores the base
abbrev pub value_of : HexLanguage → ℕ → List ℕ → Result (List ℕ) HexRefusal
value_of Hex0 base source = Ok (hex0_of source)
value_of Hex1 base source = linked base (items_of dialect.Hex1 source)
value_of Hex2 base source = linked base (items_of dialect.Hex2 source)
