use Rattle.std.proofs.Common.{◌<◌, arith}
use Rattle.std.proofs.lemmas.List.Elements.{All-from_get_or}
use Rattle.recipe_plan.proofs.inputs.size_of.Goals as goal

pub returns-clause-content : goal.returns-clause-content
returns-clause-content c = record {
  bytes = All-from_get_or (λ byte. byte < 256) c.args.content.now 0 (λ i less. omega (arith, c.type_inv.content i));
  small = c.requires;
}
