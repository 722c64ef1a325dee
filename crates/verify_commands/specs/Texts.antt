-- What `verify` prints. docs/reference/command-line.md says the same for people.
use Rattle.std.specs.Prelude.{ℕ, List, [], ◌∷◌, ◌++◌, codes, decimal, flat_map, ◌==◌, if◌then◌else◌}
use Rattle.ddc_base.specs.Lines.{line}
use Rattle.recipe.specs.declared.contents.RecipeContents.{RecipeContents}
use Rattle.report.specs.declared.types.CompareLine.{CompareLine}
use Rattle.audit_rules.specs.Bench.{all_equal}
use Rattle.verifier.specs.declared.part.Part.{Part}
use Rattle.verifier.specs.Words.{part_word}
use Rattle.recipe_plan.specs.Texts.{compared_lines}
use Rattle.wheeler.specs.declared.assumption.Assumption.{Assumption}
use Rattle.wheeler.specs.declared.assumption.Assumption.TheVariants.{Implements, Compiles}
use Rattle.wheeler.specs.Assumptions.{assumed}
use Rattle.wheeler.specs.Routes.{assumed_named}

-- the line of a false report: its first part that is false, and the number of the input or stage of that part
unfoldable pub refuted_line : Part → ℕ → List ℕ
refuted_line part place = line (codes "refuted" ∷ part_word part ∷ decimal place ∷ [])

-- the line of a true report whose comparisons all say equal
unfoldable pub yes_line : List ℕ
yes_line = line (codes "yes" ∷ [])

abbrev pub headline : List CompareLine → List ℕ
headline lines = if all_equal lines then yes_line else []

-- the words of an assumption: a program implements its source, or a source in a stage compiles another source
abbrev pub claim : Assumption → List (List ℕ)
claim (Implements made source) = codes "implements" ∷ made ∷ source ∷ []
claim (Compiles source stage becomes) = codes "compiles" ∷ source ∷ stage ∷ becomes ∷ []

-- the line of an assumption about a program
unfoldable pub assumption_line : Assumption → List ℕ
assumption_line claimed = line (codes "assumes" ∷ claim claimed)

-- an assumption that holds
unfoldable pub holds_line : Assumption → List ℕ
holds_line claimed = line (codes "holds" ∷ claim claimed)

-- a route: its compared stage, and then exactly the lines of the assumptions for that stage
unfoldable pub route_line : List ℕ → List ℕ
route_line stage = line (codes "route" ∷ stage ∷ [])

abbrev pub route_text : RecipeContents → List ℕ → List ℕ
route_text recipe stage = route_line stage ++ flat_map assumption_line (assumed_named recipe stage)

-- the assumptions about the recipe's programs: in format 1 all of them, in format 2 the route of each compared stage in order
abbrev pub assumed_text : RecipeContents → List ℕ
assumed_text recipe =
    if recipe.format == 1 then flat_map assumption_line (assumed recipe) else flat_map (route_text recipe) recipe.compare.stages

-- the text of a true report: its comparisons, after a yes where all are equal, and then exactly the assumptions
abbrev pub true_text : RecipeContents → List CompareLine → List ℕ
true_text recipe lines = headline lines ++ compared_lines lines ++ assumed_text recipe
