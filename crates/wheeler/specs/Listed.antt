-- The assumptions listed for an audit that is composed with others: its compared stages count as programs too, since a later audit may run
-- the audited binary. docs/reference/chain.md says the same for people.
use Rattle.std.specs.Prelude.{ℕ, ◌||◌, Bool, IfSome, List, All}
use Rattle.recipe.specs.declared.contents.RecipeContents.{RecipeContents}
use Rattle.recipe.specs.Lookups.{source_of}
use Rattle.wheeler.specs.declared.assumption.Assumption.{Assumption}
use Rattle.wheeler.specs.AllContents.{all_contents, text_named}
use Rattle.wheeler.specs.Assumptions.{Holds, LinesHold, is_trusted, trust_lines}
use Rattle.wheeler.specs.Follows.{Follows, audited_binary}
use Rattle.wheeler.specs.Meaning.{Compiles, Implements, Prescribes}
use Rattle.wheeler.specs.Routes.{is_on}

-- whether a name is that of the program of an unchecked stage, or of a compared stage
unfoldable pub counts : RecipeContents → List ℕ → Bool
counts recipe name = is_trusted recipe name || is_on recipe.compare.stages name

-- the assumptions listed for an audit; a compared stage without a source has none
abbrev pub lines_listed : RecipeContents → List Assumption
lines_listed recipe = trust_lines (counts recipe) recipe

-- every listed assumption holds
abbrev pub ListedHold : Prescribes → Compiles → RecipeContents → List (List ℕ) → Type 0
ListedHold prescribes compiles recipe inputs = All (Holds prescribes compiles recipe (all_contents recipe inputs)) (lines_listed recipe)

-- the audited binary implements the source of the stage of a name, if it has one
abbrev pub BinaryImplements : Prescribes → RecipeContents → List (List ℕ) → List ℕ → Type 0
BinaryImplements prescribes recipe inputs name =
    IfSome (source_of recipe name) (λ source. Implements prescribes (audited_binary recipe inputs) (text_named recipe (all_contents recipe inputs) source))

-- every assumption of an audit holds, every stage follows, and the audited binary implements the source of each compared stage that has one
pub record ConcludesListed (prescribes : Prescribes) (compiles : Compiles) (recipe : RecipeContents) (inputs : List (List ℕ)) : Type 0 where
  pub assumed : LinesHold prescribes compiles recipe inputs
  pub follows : Follows prescribes recipe inputs
  pub implements : All (BinaryImplements prescribes recipe inputs) recipe.compare.stages
