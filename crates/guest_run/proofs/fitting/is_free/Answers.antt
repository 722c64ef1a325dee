use Rattle.std.proofs.Common.{arith, ◌+◌, ◌≤◌}
use Rattle.std.proofs.lemmas.Bool.Decides.{nat_tests}
use Rattle.guest_run.proofs.Fits.{free_before, before_free}
use Rattle.guest_run.proofs.fitting.is_free.Goals as goal

pub returns-in-Some : goal.returns-in-Some
returns-in-Some g c =
    let m = g.R.Ram.bytes c.args.ram.now in (
      λ yes. let low : c.args.at + c.args.count ≤ c.in-Some.first = (grind (arith, nat_tests)) in free_before m c.args.at c.in-Some.first c.in-Some.field-0-1 c.args.count c.requires.aligned c.in-Some.ensures low,
      λ free. let low = before_free m c.args.at c.in-Some.first c.in-Some.field-0-1 c.args.count c.requires.aligned c.in-Some.ensures free in grind (arith, nat_tests),
    )
