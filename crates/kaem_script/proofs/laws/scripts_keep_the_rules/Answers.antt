use Rattle.kaem_script.proofs.Kept.{script-kept}
use Rattle.kaem_script.proofs.laws.scripts_keep_the_rules.Goals as goal

pub returns : goal.returns
returns c = script-kept
