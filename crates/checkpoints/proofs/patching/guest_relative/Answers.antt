use Rattle.std.proofs.Common.{arith}
use Rattle.save_format.specs.StateText.Seen.{state_view}
use Rattle.checkpoints.proofs.Patched.{is_found, is_only}
use Rattle.checkpoints.proofs.patching.guest_relative.Goals as goal

pub returns-clause-found : goal.returns-clause-found
returns-clause-found g c = is_found (state_view c.args.base.now) c.args.text.now c.requires.base c.applied.result (λ i. omega (arith, c.type_inv.text i)) c.applied.ensures

pub returns-clause-only : goal.returns-clause-only
returns-clause-only g c = is_only (state_view c.args.base.now) c.args.text.now c.requires.base c.requires.few c.applied.result c.applied.ensures
