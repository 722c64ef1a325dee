-- The conclusion of an audit, in both directions, for each compared stage. docs/reference/argument.md says the same for people.
use Rattle.std.specs.Prelude.{ℕ, List, All}
use Rattle.std.specs.List.{AllZip}
use Rattle.recipe.specs.declared.contents.RecipeContents.{RecipeContents}
use Rattle.report.specs.declared.types.CompareLine.{CompareLine}
use Rattle.report.specs.declared.types.Compared.{Compared}
use Rattle.report.specs.declared.types.Compared.TheVariants.{Equal, Differs}
use Rattle.wheeler.specs.Assumptions.{LinesHold}
use Rattle.wheeler.specs.Checked.{HasCheckItems, IsCheckValue}
use Rattle.wheeler.specs.Differing.{IsExcluded, IsExcludedByOwn, IsNoValue}
use Rattle.wheeler.specs.Follows.{Follows, IsOnlyContent}
use Rattle.wheeler.specs.Meaning.{Compiles, Prescribes}
use Rattle.wheeler.specs.Routes.{RouteHolds}

-- if every assumption of an audit holds, every stage follows, and so does every assumption of each stage's own route
pub record ConcludesAll (prescribes : Prescribes) (compiles : Compiles) (recipe : RecipeContents) (inputs : List (List ℕ)) : Type 0 where
  pub follows : LinesHold prescribes compiles recipe inputs → Follows prescribes recipe inputs
  pub routes : LinesHold prescribes compiles recipe inputs → (name : List ℕ) → RouteHolds prescribes compiles recipe inputs name

-- the conclusion if a compared stage equals the audited binary. If every assumption of the stage's route holds, its parent source
-- prescribes the audited binary alone. The audited binary is the value of the stage's check or has its items, without any assumption
pub record ConcludesEqual (prescribes : Prescribes) (compiles : Compiles) (recipe : RecipeContents) (inputs : List (List ℕ)) (name : List ℕ) : Type 0 where
  pub only : RouteHolds prescribes compiles recipe inputs name → IsOnlyContent prescribes recipe inputs name
  pub value : IsCheckValue recipe inputs name
  pub items : HasCheckItems recipe inputs name

-- the conclusion if they differ: no program that makes the audited binary implements the parent source, if every assumption of the stage's
-- route holds or the stage's own program implements it. Without any assumption the audited binary is not the check's value
pub record ConcludesDifferent (prescribes : Prescribes) (compiles : Compiles) (recipe : RecipeContents) (inputs : List (List ℕ)) (name : List ℕ) : Type 0 where
  pub excluded : RouteHolds prescribes compiles recipe inputs name → IsExcluded prescribes recipe inputs name
  pub excluded_by_own : IsExcludedByOwn prescribes recipe inputs name
  pub no_value : IsNoValue recipe inputs name

-- the conclusion that belongs to the result of a comparison
abbrev pub ConcludesBy : Prescribes → Compiles → RecipeContents → List (List ℕ) → List ℕ → Compared → Type 0
ConcludesBy prescribes compiles recipe inputs name (Equal length) = ConcludesEqual prescribes compiles recipe inputs name
ConcludesBy prescribes compiles recipe inputs name (Differs offset ours theirs) = ConcludesDifferent prescribes compiles recipe inputs name

-- the conclusion of an audit: each compared stage has its line, and the conclusion that belongs to its result
pub record Concludes (prescribes : Prescribes) (compiles : Compiles) (recipe : RecipeContents) (inputs : List (List ℕ)) (lines : List CompareLine) : Type 0 where
  pub all : ConcludesAll prescribes compiles recipe inputs
  pub each : AllZip (λ name (line : CompareLine). ConcludesBy prescribes compiles recipe inputs name line.result) recipe.compare.stages lines

-- the conclusion of an audit whose comparisons are all equal
pub record ConcludesYes (prescribes : Prescribes) (compiles : Compiles) (recipe : RecipeContents) (inputs : List (List ℕ)) : Type 0 where
  pub all : ConcludesAll prescribes compiles recipe inputs
  pub each : All (ConcludesEqual prescribes compiles recipe inputs) recipe.compare.stages
