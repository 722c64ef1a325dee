use Rattle.std.proofs.Common.{◌≡◌, ◌-◌, ◌*◌, ◌^◌, ◌≤◌, ◌&&◌}
use Rattle.std.specs.Prelude.{count_by}
use Rattle.std.specs.FinMap.{contains_key}
use Rattle.ddc_base.specs.Limits.{page_number_end}
use Rattle.linux_calls.specs.HeapOf.{is_apart_from_heap}
use Rattle.guest_run.specs.Valid.{pages_from}
use Rattle.guest_run.proofs.fitting.pages_apart.Given as goal

abbrev pub invariant-loop-first : goal.invariant-loop-first
invariant-loop-first g l = record {
  low : l.page ≤ page_number_end;
  few : l.count ≤ l.page;
  so_far : l.count ≡ count_by (λ page. contains_key (g.R.Ram.bytes l.ram) (4096 * page) && is_apart_from_heap l.heap (4096 * page)) (pages_from 0 l.page);
}

abbrev pub decreases-loop-first : goal.decreases-loop-first
decreases-loop-first g l = page_number_end - l.page
