use Rattle.std.proofs.Common.{refl}
use Rattle.save_format.specs.Inside.Headers.{left_and_made_at}
use Rattle.save_format.proofs.fields.pass_stage.Goals as goal

pub returns : goal.returns
unfolding left_and_made_at
returns c = (
  record { steps = c.in_ok-header.header.steps; stream1 = c.in_ok-header.header.stream1; stream2 = c.in_ok-header.header.stream2; left = c.in_ok-pass_left.ensures.0; made = c.in_ok-_made._made.now },
  rw (c.in_ok-header.ensures, c.in_ok-pass_left.ensures.1, c.in_ok-_made.ensures) refl,
)
