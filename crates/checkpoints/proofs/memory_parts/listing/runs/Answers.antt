use Rattle.std.proofs.Common.{◌*◌}
use Rattle.paged_mem.specs.Memory.{Memory}
use Rattle.paged_mem.specs.Ram.{IsRun}
use Rattle.checkpoints.specs.MemoryParts.Canonical.{runs_of}
use Rattle.checkpoints.proofs.MemoryPartsLemmas.RunsFound.{one_more, no_more, run_low}
use Rattle.checkpoints.proofs.memory_parts.listing.runs.Goals as goal

pub loop-first-preserved : goal.loop-first-preserved
loop-first-preserved g c =
    let m : Memory = g.R.Ram.bytes c.args.ram.now in
    let run : IsRun m (4096 * c.loop-first.page) c.in-Some.first c.in-Some.pages = c.in-Some.ensures in
    record {
      low = run_low m c.loop-first.page c.in-Some.first c.in-Some.pages run;
      so_far = one_more m c.loop-first.page c.in-Some.first c.in-Some.pages c.loop-first.found.items c.push.new.self.items (runs_of m) c.loop-first.invariant.low run c.in_ok-push.ensures.items c.loop-first.invariant.so_far;
    }

pub returns : goal.returns
returns g c =
    let m : Memory = g.R.Ram.bytes c.args.ram.now in
    no_more m c.loop-first.page c.loop-first.found.items (runs_of m) c.in_default.ensures c.loop-first.invariant.so_far
