use Rattle.std.proofs.Common.{◌∙◌, ap}
use Rattle.std.specs.Prelude.{nat_le, sum_by}
use Rattle.guest_run.specs.Inside.Bounds.{cost}
use Rattle.guest_run.proofs.Texts.{fits-first, fits-second, some_le}
use Rattle.guest_run.proofs.stack.fits.Goals as goal

pub returns-in-None : goal.returns-in-None
returns-in-None c = fits-first c.args.args.now c.args.env.now c.in-None.ensures

pub returns-in-Some : goal.returns-in-Some
returns-in-Some c =
    c.is_some.ensures ∙ some_le _ _ _ _ c.remaining_after-in-Some.ensures
    ∙ ap (nat_le (sum_by cost c.args.env.now)) c.in-Some.ensures.1
    ∙ fits-second c.args.args.now c.args.env.now c.in-Some.ensures.0
