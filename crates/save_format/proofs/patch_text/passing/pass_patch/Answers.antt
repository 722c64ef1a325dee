use Rattle.std.proofs.Common.{map, refl}
use Rattle.std.specs.Prelude.{option_map}
use Rattle.save_format.specs.StateText.Seen.{file_view, reserved_view}
use Rattle.save_format.specs.Inside.Headers.{lists_relative_at}
use Rattle.save_format.proofs.PatchTextLemmas.Listing.{files_rise}
use Rattle.save_format.proofs.patch_text.passing.pass_patch.Goals as goal

pub pass_pages-requires : goal.pass_pages-requires
pass_pages-requires c = rw c.as_slice.ensures.value c.requires.pages.1

pub pass_files-requires : goal.pass_files-requires
pass_files-requires c = rw c.as_slice-2.ensures.value (files_rise (map file_view c.args.base.now.files.items) c.requires.files.1)

pub returns : goal.returns
unfolding lists_relative_at
returns c = (
  record {
    steps = c.in_ok-_numbers._numbers.steps;
    pc = c.in_ok-_numbers._numbers.pc;
    registers = c.in_ok-_numbers._numbers.registers;
    reservation = option_map reserved_view c.in_ok-_numbers._numbers.reservation;
    heap = c.in_ok-_numbers._numbers.heap;
    runs = c.in_ok-pass_counted.ensures.0;
    pages = c.in_ok-pass_pages.ensures.0;
    files = c.in_ok-pass_files.ensures.0;
    descriptors = c.in_ok-pass_counted-2.ensures.0;
    stream1 = c.in_ok-_stream1._stream1.now;
    stream2 = c.in_ok-_stream2._stream2.now;
  },
  rw (
    c.in_ok-_numbers.ensures,
    c.in_ok-pass_counted.ensures.1,
    rw c.as_slice.ensures.value at c.in_ok-pass_pages.ensures.1,
    rw c.as_slice-2.ensures.value at c.in_ok-pass_files.ensures.1,
    c.in_ok-pass_counted-2.ensures.1,
    c.in_ok-_stream1.ensures,
    c.in_ok-_stream2.ensures,
  ) refl,
)
