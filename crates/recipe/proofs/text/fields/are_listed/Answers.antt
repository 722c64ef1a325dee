use Rattle.std.proofs.Common.{◌∙◌}
use Rattle.recipe.proofs.TextLemmas.Members.{listed_members}
use Rattle.recipe.proofs.text.fields.are_listed.Goals as goal

pub returns : goal.returns
returns c = c.are_keys_listed.ensures ∙ listed_members c.args.keys.now c.args.table.now.entries
