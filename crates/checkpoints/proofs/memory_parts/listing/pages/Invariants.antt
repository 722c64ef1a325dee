use Rattle.std.proofs.Common.{◌≡◌, ◌-◌, ◌^◌, ◌≤◌, ◌++◌, map}
use Rattle.ddc_base.specs.Limits.{page_number_end}
use Rattle.save_format.specs.StateText.Seen.{page_view}
use Rattle.checkpoints.specs.MemoryParts.Canonical.{page_texts_from, pages_of}
use Rattle.checkpoints.proofs.memory_parts.listing.pages.Given as goal

abbrev pub invariant-loop-first : goal.invariant-loop-first
invariant-loop-first g l = record {
  low : l.page ≤ page_number_end;
  so_far : map page_view l.found.items ++ page_texts_from (g.R.Ram.bytes l.ram) l.page (page_number_end - l.page) ≡ pages_of (g.R.Ram.bytes l.ram);
}

abbrev pub decreases-loop-first : goal.decreases-loop-first
decreases-loop-first g l = page_number_end - l.page
