-- The semantics of hex0, hex1, hex2 and M1 sources: a source means what runs of its program leave. docs/reference/argument.md says the same for people.
use Rattle.std.specs.Prelude.{◌≡◌, ℕ, Bool, true, Option, None, Some, Result, Ok, Err, List, [], ◌∷◌}
use Rattle.ddc_base.specs.declared.languages.Language.TheVariants.{Hex2, M1}
use Rattle.hex_langs.specs.declared.items.item.Item.{Item}
use Rattle.hex_langs.specs.declared.items.reader.HexRefusal.{HexRefusal}
use Rattle.hex_langs.specs.Link.Link.{link_of}
use Rattle.m1_lang.specs.declared.refusal.M1Refusal.{M1Refusal}
use Rattle.m1_lang.specs.Expansion.{expansion_of}
use Rattle.recipe.specs.declared.contents.RecipeContents.{RecipeContents}
use Rattle.recipe.specs.declared.parts.SourceLanguage.{SourceLanguage}
use Rattle.recipe.specs.declared.parts.SourceLanguage.TheVariants.{Defined}
use Rattle.recipe.specs.Lookups.{source_of}
use Rattle.audit_rules.specs.Contents.{SourceText, content}
use Rattle.audit_rules.specs.SourceCheck.Checks.{joined_files}
use Rattle.wheeler.specs.AllContents.{all_contents, text_named}
use Rattle.wheeler.specs.Assembly.{ProgramLeaves}
use Rattle.wheeler.specs.Meaning.{Prescribes}
use Rattle.wheeler.specs.Values.{binary_in}

-- the bytes of items linked at a base, if linking succeeds
abbrev pub linked_bytes : Result (List ℕ) HexRefusal → Option (List ℕ)
linked_bytes (Ok bytes) = Some bytes
linked_bytes (Err why) = None

abbrev pub linked_items : ℕ → Result (List Item) M1Refusal → Option (List ℕ)
linked_items base (Ok items) = linked_bytes (link_of items base)
linked_items base (Err why) = None

-- the program of a source: in M1 the link of its items at its base, else its value
abbrev pub program_in : SourceLanguage → ℕ → List (List ℕ) → Option (List ℕ)
program_in (Defined M1) base files = linked_items base (expansion_of (joined_files files))
program_in language base files = binary_in language base files

unfoldable pub program_of_text : SourceText → Option (List ℕ)
program_of_text source = program_in source.lang source.base source.files

-- what a run of the source's program leaves
abbrev pub MacroLeaves : Prescribes
MacroLeaves = ProgramLeaves program_of_text

-- each of these programs of an audit that has a source is the program of that source
abbrev pub AreOwnPrograms : (List ℕ → Bool) → RecipeContents → List (List ℕ) → Type 0
AreOwnPrograms trusted recipe inputs =
    (name source : List ℕ) → trusted name ≡ true → source_of recipe name ≡ Some source
    → program_of_text (text_named recipe (all_contents recipe inputs) source) ≡ Some (content recipe (all_contents recipe inputs) name)

-- a text as a source of hex2
abbrev pub as_hex2 : ℕ → List ℕ → SourceText
as_hex2 base text = record { lang = Defined Hex2; base = base; files = text ∷ [] }
