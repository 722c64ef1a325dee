use Rattle.std.proofs.Common.{sym, subst}
use Rattle.paged_mem.specs.Memory.{with_bytes}
use Rattle.linux_calls.specs.HeapOf.{IsHeapOf}
use Rattle.paged_mem.proofs.Wholes.{same_after_write}
use Rattle.linux_calls.proofs.Heaps.{IsHeapOf-same}
use Rattle.linux_calls.proofs.transfer.read.Goals as goal

pub returns-in-Ok-write_from-clause-kept : goal.returns-in-Ok-write_from-clause-kept
returns-in-Ok-write_from-clause-kept g c heap is =
    let m = g.R.Ram.bytes c.args.ram.now in
    let bytes = c.in-Ok.bytes.now in
    subst (λ n. IsHeapOf n heap) (sym c.in-Ok-write_from.ensures.1)
    (IsHeapOf-same m (with_bytes m c.args.buffer.at bytes) heap (same_after_write m c.args.buffer.at bytes c.in-Ok-write_from.ensures.0) is)
