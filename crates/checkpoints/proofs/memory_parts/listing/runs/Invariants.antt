use Rattle.std.proofs.Common.{◌≡◌, ◌-◌, ◌^◌, ◌≤◌, ◌++◌}
use Rattle.ddc_base.specs.Limits.{page_number_end}
use Rattle.checkpoints.specs.MemoryParts.Canonical.{runs_from, runs_of, is_mapped}
use Rattle.checkpoints.proofs.memory_parts.listing.runs.Given as goal

abbrev pub invariant-loop-first : goal.invariant-loop-first
invariant-loop-first g l = record {
  low : l.page ≤ page_number_end;
  so_far : l.found.items ++ runs_from (is_mapped (g.R.Ram.bytes l.ram)) l.page (page_number_end - l.page) ≡ runs_of (g.R.Ram.bytes l.ram);
}

abbrev pub decreases-loop-first : goal.decreases-loop-first
decreases-loop-first g l = page_number_end - l.page
