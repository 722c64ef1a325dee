use Rattle.audit_rules.specs.Positions.{at}
use Rattle.audit_run.proofs.SaveLemmas.Written.{short_done}
use Rattle.audit_run.proofs.save.writing.write.Goals as goal

pub put_done-requires-clause-short : goal.put_done-requires-clause-short
put_done-requires-clause-short c = short_done c.args.recipe.now (at c.args.done.now c.args.guest.now) c.digest.ensures.kept c.requires.position
