use Rattle.std.proofs.Common.{map, subst, ◌∙◌}
use Rattle.ddc_base.specs.Limits.{most_content}
use Rattle.recipe.specs.declared.parts.Input.{Input}
use Rattle.command_plan.specs.Plan.{needs_all}
use Rattle.command_plan.specs.Steps.{Obtains}
use Rattle.recipe_plan.proofs.inputs.fetch_inputs_within.Goals as goal

pub returns-clause-obtained : goal.returns-clause-obtained
returns-clause-obtained g c =
    subst (λ inputs. Obtains (needs_all most_content c.args.budget (map (λ (input : Input). input.path) inputs)) (g.S.Shelf.state c.args.shelf.now) (g.S.Shelf.state c.fetch_each.new.shelf) c.fetch_each.result)
    (c.as_slice.ensures ∙ c.inputs.ensures.value) c.fetch_each.ensures.obtained
