use Rattle.std.proofs.Common.{◌*◌, map}
use Rattle.paged_mem.specs.Memory.{Memory}
use Rattle.paged_mem.specs.Ram.{IsRun}
use Rattle.save_format.specs.StateText.Seen.{page_view}
use Rattle.checkpoints.specs.MemoryParts.Canonical.{pages_of}
use Rattle.checkpoints.proofs.MemoryPartsLemmas.RunsFound.{run_low}
use Rattle.checkpoints.proofs.MemoryPartsLemmas.PagesFound.{run_pages, no_more_pages}
use Rattle.checkpoints.proofs.memory_parts.listing.pages.Goals as goal

pub loop-first-preserved : goal.loop-first-preserved
loop-first-preserved g c =
    let m : Memory = g.R.Ram.bytes c.args.ram.now in
    let run : IsRun m (4096 * c.loop-first.page) c.in-Some.first c.in-Some.count = c.in-Some.ensures in
    record {
      low = run_low m c.loop-first.page c.in-Some.first c.in-Some.count run;
      so_far = run_pages m c.loop-first.page c.in-Some.first c.in-Some.count (map page_view c.loop-first.found.items) (map page_view c.push_pages.new.found.items) (pages_of m) c.loop-first.invariant.low run c.in_ok-push_pages.ensures c.loop-first.invariant.so_far;
    }

pub returns : goal.returns
returns g c =
    let m : Memory = g.R.Ram.bytes c.args.ram.now in
    no_more_pages m c.loop-first.page (map page_view c.loop-first.found.items) (pages_of m) c.in_default.ensures c.loop-first.invariant.so_far
