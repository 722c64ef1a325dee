-- The program of a text.
use Rattle.std.specs.Prelude.{ℕ, Option, List}
use Rattle.ddc_base.specs.declared.languages.Language.{Language}
use Rattle.ddc_base.specs.declared.languages.Language.TheVariants.{Hex0, Hex1, Hex2, M1}
use Rattle.hex_langs.specs.declared.link.values.HexLanguage.TheVariants as hex
use Rattle.hex_langs.specs.Link.Values.{value_of}
use Rattle.m1_lang.specs.Expansion.{expansion_of}
use Rattle.wheeler.specs.MacroAssembly.{linked_bytes, linked_items}

-- the program of a text in a language at a base
abbrev pub program_at : Language → ℕ → List ℕ → Option (List ℕ)
program_at Hex0 base text = linked_bytes (value_of hex.Hex0 base text)
program_at Hex1 base text = linked_bytes (value_of hex.Hex1 base text)
program_at Hex2 base text = linked_bytes (value_of hex.Hex2 base text)
program_at M1 base text = linked_items base (expansion_of text)
