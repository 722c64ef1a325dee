use Rattle.std.proofs.Common.{◌≡◌, ℕ, map, take, is_some}
use Rattle.std.specs.FinMap as finite
use Rattle.save_format.specs.StateText.Seen.{page_view}
use Rattle.checkpoints.proofs.MemoryPartsLemmas.Filling.{filled_on}
use Rattle.checkpoints.proofs.memory_parts.making.fill_pages.Given as goal

abbrev pub invariant-loop-page : goal.invariant-loop-page
invariant-loop-page g l = record {
  written : g.R.Ram.bytes l.ram ≡ filled_on (g.R.Ram.bytes l.fn.ram) (map page_view (take l.page-index l.pages));
  alike : (q : ℕ) → is_some (finite.get (g.R.Ram.bytes l.ram) q) ≡ is_some (finite.get (g.R.Ram.bytes l.fn.ram) q);
}
