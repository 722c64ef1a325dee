use Rattle.recipe.proofs.NoWant.{never_want}
use Rattle.recipe.proofs.laws.no_bytes_say_want_of_memory.Goals as goal

pub returns : goal.returns
returns c = never_want
