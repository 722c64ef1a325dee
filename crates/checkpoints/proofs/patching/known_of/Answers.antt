use Rattle.checkpoints.proofs.PatchCounts.{few_seen}
use Rattle.checkpoints.proofs.patching.known_of.Goals as goal

pub returns-clause-few : goal.returns-clause-few
returns-clause-few g c = few_seen c.args.base.now c.parts_of.result c.parts_of.ensures.seen
