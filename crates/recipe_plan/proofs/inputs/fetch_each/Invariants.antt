use Rattle.std.proofs.Common.{◌≡◌, All, List, ℕ, length, drop, map}
use Rattle.ddc_base.specs.Limits.{most_content}
use Rattle.mem_files.specs.Outputs.{IsContent}
use Rattle.recipe.specs.declared.parts.Input.{Input}
use Rattle.command_plan.specs.Plan.{needs_all}
use Rattle.command_plan.specs.Steps.{LeadsOn}
use Rattle.command_plan.proofs.Gathering.{rest_of}
use Rattle.recipe_plan.proofs.inputs.fetch_each.Given as goal

pub record Fetched (led : Type 0) (contents : List (List ℕ)) (index : ℕ) : Type 0 where
  pub leads : led
  pub count : length contents ≡ index
  pub each : All IsContent contents

abbrev pub invariant-loop-input : goal.invariant-loop-input
invariant-loop-input g l =
    Fetched
    (LeadsOn (needs_all most_content l.fn.budget (map (λ (input : Input). input.path) l.inputs))
    (rest_of most_content l.budget l.contents (drop l.input-index (map (λ (input : Input). input.path) l.inputs))) (g.S.Shelf.state l.fn.shelf) (g.S.Shelf.state l.shelf))
    l.contents l.input-index
