-- The programs on which the conclusion about one stage depends, and the assumptions about them alone. docs/reference/argument.md says the
-- same for people.
use Rattle.std.specs.Prelude.{ℕ, zero, suc, ◌-◌, Bool, length, bytes_eq, if◌then◌else◌, Option, None, Some, slice_get, List, [], ◌∷◌, All}
use Rattle.std.specs.List.{list_any}
use Rattle.recipe.specs.declared.contents.RecipeContents.{RecipeContents}
use Rattle.recipe.specs.declared.parts.Stage.{Stage}
use Rattle.wheeler.specs.declared.assumption.Assumption.{Assumption}
use Rattle.wheeler.specs.declared.assumption.Assumption.TheVariants.{Implements, Compiles}
use Rattle.wheeler.specs.AllContents.{all_contents, stage_named}
use Rattle.wheeler.specs.Assumptions.{Holds, trust_lines}
use Rattle.wheeler.specs.Meaning as relation

-- these programs for an unchecked stage; none for a checked stage
abbrev pub unless_checked : Option (List ℕ) → List (List ℕ) → List (List ℕ)
unless_checked None programs = programs
unless_checked (Some check) programs = []

-- this program and those after it, if this stage makes it; else what the earlier stages result in
abbrev pub made_at : List ℕ → Option Stage → List (List ℕ) → (List ℕ → List (List ℕ)) → List (List ℕ)
made_at name None earlier more = earlier
made_at name (Some stage) earlier more = if bytes_eq stage.name name then name ∷ unless_checked stage.check (more stage.program) else earlier

-- a program, which is an input or is made by one of the first stages, as many as the number, and the programs after it
unfoldable pub route_from : List Stage → ℕ → List ℕ → List (List ℕ)
route_from stages zero name = name ∷ []
route_from stages (suc n) name = made_at name (slice_get stages n) (route_from stages n name) (λ program. route_from stages n program)

-- the route of a stage: its program, that program's own if an unchecked stage makes it, and so on, up to an input or a checked stage's
-- artefact; empty if the stage is checked
abbrev pub route_by : RecipeContents → Option Stage → List (List ℕ)
route_by recipe None = []
route_by recipe (Some stage) = unless_checked stage.check (route_from recipe.stages (length recipe.stages) stage.program)

-- the route of a stage, by its number from 1 and by its name
unfoldable pub route : RecipeContents → ℕ → List (List ℕ)
route recipe number = route_by recipe (slice_get recipe.stages (number - 1))

unfoldable pub route_named : RecipeContents → List ℕ → List (List ℕ)
route_named recipe name = route_by recipe (stage_named recipe.stages name)

abbrev pub is_on : List (List ℕ) → List ℕ → Bool
is_on names name = list_any (λ other. bytes_eq other name) names

-- the name of the program that an assumption is about
abbrev pub about : Assumption → List ℕ
about (Implements made source) = made
about (Compiles source stage becomes) = stage

-- the assumptions of one stage: those about the members of its route, in the order of the whole list
abbrev pub assumed_for : RecipeContents → ℕ → List Assumption
assumed_for recipe number = trust_lines (is_on (route recipe number)) recipe

abbrev pub assumed_named : RecipeContents → List ℕ → List Assumption
assumed_named recipe name = trust_lines (is_on (route_named recipe name)) recipe

-- every assumption of the route of the stage of a name holds
abbrev pub RouteHolds : relation.Prescribes → relation.Compiles → RecipeContents → List (List ℕ) → List ℕ → Type 0
RouteHolds prescribes compiles recipe inputs name = All (Holds prescribes compiles recipe (all_contents recipe inputs)) (assumed_named recipe name)
