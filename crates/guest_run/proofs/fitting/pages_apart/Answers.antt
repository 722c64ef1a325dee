use Rattle.std.proofs.Common.{◌∙◌, ◌+◌, sym, arith}
use Rattle.guest_run.proofs.Fits.{count_start, run_counted, run_low, none_counted}
use Rattle.guest_run.proofs.fitting.pages_apart.Goals as goal

pub loop-first-init : goal.loop-first-init
loop-first-init g c = record { low = omega arith; few = omega arith; so_far = count_start _ 0 }

pub loop-first-preserved : goal.loop-first-preserved
loop-first-preserved g c =
    let m = g.R.Ram.bytes c.args.ram.now in
    let found = run_counted m c.args.heap.now c.loop-first.page c.in-Some.first c.in-Some.pages c.loop-first.invariant.low c.in-Some.ensures in
    let from = c.in-Some.ensures.from in
    record {
      low = run_low m c.args.heap.now c.loop-first.page c.in-Some.first c.in-Some.pages c.in-Some.ensures;
      few = omega (arith, c.loop-first.invariant.few, c.apart_in_row-count.ensures.few, from);
      so_far = (λ i. c.loop-first.invariant.so_far i + c.apart_in_row-count.ensures.value i) ∙ sym found;
    }

pub returns : goal.returns
returns g c = c.loop-first.invariant.so_far ∙ sym (none_counted (g.R.Ram.bytes c.args.ram.now) c.args.heap.now c.loop-first.page c.loop-first.invariant.low c.in_default.ensures)
