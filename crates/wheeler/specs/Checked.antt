-- What the audited binary is when it equals a checked stage. docs/reference/argument.md says the same for people.
use Rattle.std.specs.Prelude.{◌≡◌, ◌≢◌, ℕ, Some, Ok, List}
use Rattle.ddc_base.specs.declared.languages.Language.{Language}
use Rattle.ddc_base.specs.declared.languages.Language.TheVariants.{M1}
use Rattle.hex_langs.specs.declared.items.item.Item.{Item}
use Rattle.hex_langs.specs.declared.items.token.Dialect.TheVariants.{Hex2}
use Rattle.hex_langs.specs.Items.Reading.{items_of}
use Rattle.m1_lang.specs.Expansion.{expansion_of}
use Rattle.recipe.specs.declared.contents.RecipeContents.{RecipeContents}
use Rattle.recipe.specs.declared.parts.Stage.{Stage}
use Rattle.audit_rules.specs.SourceCheck.Checks.{joined_files}
use Rattle.audit_rules.specs.Contents.{SourceText, check_language}
use Rattle.wheeler.specs.AllContents.{all_contents, text_named}
use Rattle.wheeler.specs.Follows.{IsComparedStage, audited_binary}
use Rattle.wheeler.specs.Values.{binary_of}

-- a stage's artefact is checked in this language, by the source of this name
pub record IsCheckedIn (recipe : RecipeContents) (stage : Stage) (language : Language) (source : List ℕ) : Type 0 where
  pub named : stage.check ≡ Some source
  pub defined : check_language recipe stage ≡ Some language

-- if the stage of a name is checked in hex0, hex1 or hex2, the audited binary is the value of the check's source
abbrev pub IsCheckValue : RecipeContents → List (List ℕ) → List ℕ → Type 0
IsCheckValue recipe inputs name =
    (stage : Stage) (language : Language) (source : List ℕ) → IsComparedStage recipe name stage → IsCheckedIn recipe stage language source → language ≢ M1
    → binary_of (text_named recipe (all_contents recipe inputs) source) ≡ Some (audited_binary recipe inputs)

-- a hex2 text that has the items of an M1 source, one by one
pub record HasItemsOf (source : SourceText) (text : List ℕ) : Type 0 where
  pub items : List Item
  pub expands : expansion_of (joined_files source.files) ≡ Ok items
  pub reads : items_of Hex2 text ≡ Ok items

-- if the stage of a name is checked in M1, the audited binary is a hex2 text with the items of the check's source
abbrev pub HasCheckItems : RecipeContents → List (List ℕ) → List ℕ → Type 0
HasCheckItems recipe inputs name =
    (stage : Stage) (source : List ℕ) → IsComparedStage recipe name stage → IsCheckedIn recipe stage M1 source
    → HasItemsOf (text_named recipe (all_contents recipe inputs) source) (audited_binary recipe inputs)
