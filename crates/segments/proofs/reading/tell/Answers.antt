use Rattle.std.proofs.Common.{arith}
use Rattle.segments.proofs.reading.tell.Goals as goal

pub returns-in-Ok : goal.returns-in-Ok
returns-in-Ok c = record {
  guest = c.args.guest.now;
  is = c.requires;
  valid = c.steps-steps.ensures.valid;
  small = omega (arith, c.steps-steps.ensures.value);
  counted = c.steps-steps.ensures.value;
  written = c.in-Ok.ensures;
}
