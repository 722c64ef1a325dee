use Rattle.std.proofs.Common.{◌≡◌, ◌++◌, map}
use Rattle.save_format.specs.StateText.Seen.{page_view}
use Rattle.checkpoints.specs.MemoryParts.Canonical.{page_texts_from}
use Rattle.checkpoints.proofs.memory_parts.listing.push_pages.Given as goal

abbrev pub invariant-loop-i : goal.invariant-loop-i
invariant-loop-i g l = map page_view l.found.items ≡ map page_view l.fn.found.items ++ page_texts_from (g.R.Ram.bytes l.ram) l.first l.i
