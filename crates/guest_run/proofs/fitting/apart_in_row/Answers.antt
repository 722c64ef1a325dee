use Rattle.std.proofs.Common.{◌≡◌, ◌+◌, ◌*◌, cond, ◌∙◌, ap, sym, arith}
use Rattle.linux_calls.specs.HeapOf.{is_apart_from_heap}
use Rattle.guest_run.proofs.Fits.{count_start, count_more, byte_is, one_at_most}
use Rattle.guest_run.proofs.fitting.apart_in_row.Goals as goal

pub loop-i-init : goal.loop-i-init
loop-i-init c = record { value = count_start (λ page. is_apart_from_heap c.args.heap.now (4096 * page)) c.args.first; few = omega arith }

pub loop-i-preserved : goal.loop-i-preserved
loop-i-preserved c =
    let clear = is_apart_from_heap c.args.heap.now (4096 * (c.args.first + c.loop-i.i)) in
    let one : c.from-count.result ≡ cond clear 1 0 = c.from-count.ensures ∙ byte_is c.is_apart.result ∙ ap (λ b. cond b 1 0) c.is_apart.ensures in
    record {
      value = (λ i. c.loop-i.invariant.value i + one i) ∙ sym (count_more (λ page. is_apart_from_heap c.args.heap.now (4096 * page)) c.args.first c.loop-i.i);
      few = omega (arith, c.loop-i.invariant.few, one, one_at_most clear);
    }
