use Rattle.std.proofs.Common.{◌≡◌, ◌*◌, ◌≤◌}
use Rattle.std.specs.Prelude.{count_by}
use Rattle.linux_calls.specs.HeapOf.{is_apart_from_heap}
use Rattle.guest_run.specs.Valid.{pages_from}
use Rattle.guest_run.proofs.fitting.apart_in_row.Given as goal

abbrev pub invariant-loop-i : goal.invariant-loop-i
invariant-loop-i l = record {
  value : l.count ≡ count_by (λ page. is_apart_from_heap l.heap (4096 * page)) (pages_from l.first l.i);
  few : l.count ≤ l.i;
}
