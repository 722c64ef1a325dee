-- What the assumptions of an audit say together, with the largest relation that the law `carry` allows.
use Rattle.std.specs.Prelude.{◌≡◌, ℕ, Bool, true, Some, List}
use Rattle.recipe.specs.declared.contents.RecipeContents.{RecipeContents}
use Rattle.recipe.specs.Lookups.{source_of}
use Rattle.audit_rules.specs.Contents.{Contents, content}
use Rattle.wheeler.specs.AllContents.{all_contents, text_named}
use Rattle.wheeler.specs.Assumptions.{is_trusted}
use Rattle.wheeler.specs.Meaning.{Implements, Prescribes}
use Rattle.wheeler.specs.Routes.{is_on, route_named}

-- each of these programs that has a source implements it
abbrev pub TheseImplement : Prescribes → (List ℕ → Bool) → RecipeContents → Contents → Type 0
TheseImplement prescribes trusted recipe all =
    (name source : List ℕ) → trusted name ≡ true → source_of recipe name ≡ Some source
    → Implements prescribes (content recipe all name) (text_named recipe all source)

-- each program that an unchecked stage of an audit runs implements its source, if it has one
abbrev pub ProgramsImplement : Prescribes → RecipeContents → List (List ℕ) → Type 0
ProgramsImplement prescribes recipe inputs = TheseImplement prescribes (is_trusted recipe) recipe (all_contents recipe inputs)

-- each program on the route of the stage of a name implements its source, if it has one
abbrev pub RouteImplements : Prescribes → RecipeContents → List (List ℕ) → List ℕ → Type 0
RouteImplements prescribes recipe inputs name = TheseImplement prescribes (is_on (route_named recipe name)) recipe (all_contents recipe inputs)
