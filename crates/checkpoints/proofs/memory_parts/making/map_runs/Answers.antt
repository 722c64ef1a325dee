use Rattle.std.proofs.Common.{refl, ap, ◌∙◌}
use Rattle.std.specs.Ordering.{nat_cmp}
use Rattle.std.specs.FinMap.{get, empty, get-empty}
use Rattle.paged_mem.specs.Memory.{Memory}
use Rattle.checkpoints.specs.MemoryParts.Canonical.{mapped_runs}
use Rattle.checkpoints.proofs.MemoryPartsLemmas.Mapping.{map_stepped, all_mapped}
use Rattle.checkpoints.proofs.memory_parts.making.map_runs.Goals as goal

pub loop-run-init : goal.loop-run-init
loop-run-init g c = record {
  placed = c.requires;
  free = λ a le. ap (λ (m : Memory). get m a) c.empty-ram.ensures ∙ get-empty nat_cmp a;
  rest = ap (λ (m : Memory). mapped_runs m c.args.runs.now) c.empty-ram.ensures;
}

pub loop-run-preserved : goal.loop-run-preserved
loop-run-preserved g c = map_stepped (g.R.Ram.bytes c.loop-run.ram) (g.R.Ram.bytes c.map_zero.new.self) (mapped_runs empty c.args.runs.now) c.args.runs.now c.loop-run.run-index c.loop-run.least c.from-first.result c.from-pages.result _ c.loop-run-test.true refl c.loop-run.invariant c.in_ok-map_zero.ensures.ok c.from-first.ensures c.from-pages.ensures

pub returns : goal.returns
returns g c = all_mapped (g.R.Ram.bytes c.loop-run.ram) (mapped_runs empty c.args.runs.now) c.args.runs.now c.loop-run.run-index c.loop-run.least c.loop-run-test.false c.loop-run.invariant
