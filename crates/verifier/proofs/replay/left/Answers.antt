use Rattle.std.proofs.Common.{refl, sym}
use Rattle.verifier.specs.Inside.Holdings.{so_far}
use Rattle.verifier.proofs.StageRules.{output-is}
use Rattle.verifier.proofs.replay.left.Goals as goal

pub recorded-requires-clause-named : goal.recorded-requires-clause-named
recorded-requires-clause-named c = output-is c.args.held.now.recipe.now c.args.reported.now.stage.now c.requires.held.recipe c.requires.known

pub returns-in-Err-clause-memory : goal.returns-in-Err-clause-memory
returns-in-Err-clause-memory c = (refl, record { made = c.in-Some.made.now; is = sym (c.in-Some.ensures (so_far c.args.held.now) c.requires.total) })
