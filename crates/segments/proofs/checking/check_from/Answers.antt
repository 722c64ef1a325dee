use Rattle.std.proofs.Common.{subst, sym}
use Rattle.segments.specs.Inside.Recorded.{NotRead}
use Rattle.segments.specs.Segments.{IsNoState}
use Rattle.segments.proofs.checking.check_from.Goals as goal

pub returns-in-Err-Fault : goal.returns-in-Err-Fault
returns-in-Err-Fault c =
    ((c.args.guest.now, c.requires), subst (IsNoState c.args.to.now) (sym c.in-Err-Fault.why-is) (subst (NotRead c.args.to.now) c.in-Err-Fault.field-0-is c.in-Err-Fault.ensures))
