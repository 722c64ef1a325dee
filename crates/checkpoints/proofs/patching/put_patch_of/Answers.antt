use Rattle.std.proofs.Common.{subst, sym}
use Rattle.save_format.specs.PatchText.Encoded.{IsPatched}
use Rattle.save_format.specs.StateText.Seen.{state_view}
use Rattle.save_format.specs.StateText.Encoded.{IsStateText}
use Rattle.checkpoints.proofs.PatchCounts.{has_patch}
use Rattle.checkpoints.proofs.patching.put_patch_of.Goals as goal

pub put_patch-requires-clause-parts : goal.put_patch-requires-clause-parts
put_patch-requires-clause-parts g c =
    let seen = c.in_ok-parts.ensures.seen in
    subst (IsPatched (state_view c.args.base.now)) (sym seen) (has_patch (state_view c.args.base.now) c.args.guest.now c.requires.base c.requires.few (subst IsStateText seen c.in_ok-parts.ensures.text))
