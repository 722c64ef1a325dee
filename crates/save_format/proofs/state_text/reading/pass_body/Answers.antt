use Rattle.std.proofs.Common.{refl}
use Rattle.std.specs.Prelude.{option_map}
use Rattle.save_format.specs.StateText.Seen.{reserved_view}
use Rattle.save_format.specs.Inside.Headers.{lists_at}
use Rattle.save_format.proofs.state_text.reading.pass_body.Goals as goal

pub returns : goal.returns
unfolding lists_at
returns c = (
  record {
    steps = c.in_ok-_numbers._numbers.steps;
    pc = c.in_ok-_numbers._numbers.pc;
    registers = c.in_ok-_numbers._numbers.registers;
    reservation = option_map reserved_view c.in_ok-_numbers._numbers.reservation;
    heap = c.in_ok-_numbers._numbers.heap;
    runs = c.in_ok-pass_counted.ensures.0;
    pages = c.in_ok-pass_counted-2.ensures.0;
    files = c.in_ok-pass_counted-3.ensures.0;
    descriptors = c.in_ok-pass_counted-4.ensures.0;
    stream1 = c.in_ok-_stream1._stream1.now;
    stream2 = c.in_ok-_stream2._stream2.now;
  },
  rw (
    c.in_ok-_numbers.ensures,
    c.in_ok-pass_counted.ensures.1,
    c.in_ok-pass_counted-2.ensures.1,
    c.in_ok-pass_counted-3.ensures.1,
    c.in_ok-pass_counted-4.ensures.1,
    c.in_ok-_stream1.ensures,
    c.in_ok-_stream2.ensures,
  ) refl,
)
