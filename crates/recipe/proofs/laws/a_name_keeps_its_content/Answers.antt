use Rattle.recipe.proofs.MoreStages.{content_more}
use Rattle.recipe.proofs.laws.a_name_keeps_its_content.Goals as goal

pub returns : goal.returns
returns c = content_more
