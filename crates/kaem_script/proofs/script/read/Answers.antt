use Rattle.kaem_script.proofs.WellFormed.{script-whole}
use Rattle.kaem_script.proofs.script.read.Goals as goal

pub invariant_of-result : goal.invariant_of-result
invariant_of-result c =
    script-whole c.args.bytes.now c.digest.result c.in_ok-commands.commands c.digest.ensures
    (c.scripts_keep_the_rules.ensures c.args.bytes.now c.in_ok-commands.commands c.in_ok-commands.ensures)
