-- What `cut` and `ends` do first: load the recipe and the inputs, and run the stages before STAGE. docs/reference/segments.md says the same
-- for people.
use Rattle.std.specs.Prelude.{List, ℕ}
use Rattle.ddc_base.specs.Limits.{most_states}
use Rattle.command_plan.specs.Plan.{Plan}
use Rattle.recipe_plan.specs.Recipes.{needs_apart, needs_inputs, needs_recipe}
use Rattle.stage_commands.specs.Earlier.{needs_earlier, needs_stage}
use Rattle.stage_commands.specs.Names.{each_name, needs_other}
use Rattle.stage_commands.specs.declared.ready.Ready.{Ready}

-- in this order: no state's name is RECIPE; loads the recipe and finds the stage; no state's name is an input; loads the inputs and runs
-- the stages before STAGE
unfoldable pub needs_ready : List ℕ → List ℕ → List ℕ → (Ready → Plan) → Plan
needs_ready recipe stage prefix next =
    each_name (needs_other recipe) prefix most_states (λ _.
    needs_recipe recipe (λ parsed.
    needs_stage parsed stage (λ count.
    each_name (needs_apart parsed) prefix most_states (λ _.
    needs_inputs parsed (λ inputs.
    needs_earlier parsed inputs count (λ done.
    next (record { recipe = parsed; inputs = inputs; done = done })))))))
