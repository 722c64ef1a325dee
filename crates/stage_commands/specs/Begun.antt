-- What a command on one stage starts from, given the files. docs/reference/segments.md says the same for people.
use Rattle.std.specs.Prelude.{◌≡◌, ℕ, Some, Ok, List, [], length, map, take}
use Rattle.std.specs.FinMap as finite
use Rattle.ddc_base.specs.declared.outside.Loaded.TheVariants.{Bytes}
use Rattle.ddc_base.specs.Outside.{NamedFiles, loaded}
use Rattle.ddc_base.specs.Limits.{most_recipe}
use Rattle.recipe.specs.Lookups.{stage_at}
use Rattle.recipe.specs.Reading.{recipe_of}
use Rattle.audit_run.specs.Earlier.{done_in_order}
use Rattle.recipe_plan.specs.Recipes.{paths}
use Rattle.stage_commands.specs.declared.ready.Ready.{Ready}

-- The recipe and the inputs are those in their files. The finished stages are those before the one of this name, run as the audit's
-- definition (`bench`) runs them
pub record IsBegun (recipe stage : List ℕ) (files : NamedFiles) (ready : Ready) : Type 0 where
  pub text : List ℕ
  pub held : loaded files recipe most_recipe ≡ Bytes text
  pub parsed : recipe_of text ≡ Ok ready.recipe
  pub inputs : map (λ path. finite.get files path) (paths ready.recipe) ≡ map Some ready.inputs
  pub index_is : stage_at ready.recipe.stages stage ≡ Some (length ready.done)
  pub before : done_in_order ready.recipe ready.inputs [] (take (length ready.done) ready.recipe.stages) ≡ Ok ready.done
