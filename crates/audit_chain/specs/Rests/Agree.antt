-- What the dependencies of an artefact settle.
use Rattle.std.specs.Prelude.{◌≡◌, ℕ, true, false, List, All}
use Rattle.hex_langs.specs.declared.items.token.Dialect.TheVariants.{Hex2}
use Rattle.hex_langs.specs.Items.Reading.{items_of}
use Rattle.recipe.specs.declared.contents.RecipeContents.{RecipeContents}
use Rattle.recipe.specs.declared.parts.Input.{Input}
use Rattle.recipe.specs.declared.parts.Stage.{Stage}
use Rattle.audit_rules.specs.Contents.{content}
use Rattle.wheeler.specs.AllContents.{all_contents}
use Rattle.wheeler.specs.Assumptions.{Holds}
use Rattle.wheeler.specs.Follows.{FollowsBy}
use Rattle.wheeler.specs.Meaning.{Compiles, Prescribes}
use Rattle.audit_chain.specs.Rests.Basis.{layouts, lines, texts}
use Rattle.audit_chain.specs.Rests.Walk.{is_free, meets, runs_meet, walk}

-- a name stands for the same bytes in two audits of one recipe
abbrev pub IsSame : RecipeContents → List (List ℕ) → List (List ℕ) → List ℕ → Type 0
IsSame recipe inputs others name = content recipe (all_contents recipe inputs) name ≡ content recipe (all_contents recipe others) name

-- two audits of one recipe agree on the texts and the layouts of a stage's basis
pub record Agree (recipe : RecipeContents) (inputs others : List (List ℕ)) (name : List ℕ) : Type 0 where
  pub texts : All (IsSame recipe inputs others) (texts recipe name)
  pub layouts : All (IsSame recipe inputs others) (layouts recipe name)

-- two audits of one recipe agree on the inputs that unchecked stages among the dependencies run
abbrev pub AgreeOnPrograms : RecipeContents → List (List ℕ) → List (List ℕ) → List ℕ → Type 0
AgreeOnPrograms recipe inputs others name =
    All (λ (input : Input). runs_meet (walk recipe name) input.name ≡ true → IsSame recipe inputs others input.name) recipe.inputs

-- the artefact of a stage is the same in both audits; if its check leaves its layout free, the items are
pub record IsSameArtefact (recipe : RecipeContents) (inputs others : List (List ℕ)) (stage : Stage) : Type 0 where
  pub bytes : is_free recipe stage ≡ false → IsSame recipe inputs others stage.name
  pub items : is_free recipe stage ≡ true
      → items_of Hex2 (content recipe (all_contents recipe inputs) stage.name) ≡ items_of Hex2 (content recipe (all_contents recipe others) stage.name)

-- every assumption of a stage's basis holds
abbrev pub BasisHolds : Prescribes → Compiles → RecipeContents → List (List ℕ) → List ℕ → Type 0
BasisHolds prescribes compiles recipe inputs name = All (Holds prescribes compiles recipe (all_contents recipe inputs)) (lines recipe name)

-- every stage among the dependencies follows
abbrev pub WalkFollows : Prescribes → RecipeContents → List (List ℕ) → List ℕ → Type 0
WalkFollows prescribes recipe inputs name =
    All (λ (stage : Stage). meets (walk recipe name) stage.name ≡ true
    → FollowsBy prescribes recipe (all_contents recipe inputs) stage stage.check) recipe.stages
