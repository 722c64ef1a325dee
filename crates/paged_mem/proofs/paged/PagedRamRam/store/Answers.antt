use Rattle.std.proofs.Common.{subst}
use Rattle.paged_mem.specs.Memory.{bytes_of}
use Rattle.paged_mem.specs.Ram.{count_of, Writes}
use Rattle.paged_mem.proofs.Accessed.{low_bytes}
use Rattle.paged_mem.proofs.paged.PagedRamRam.store.Goals as goal

pub returns-clause-stores : goal.returns-clause-stores
returns-clause-stores c =
    subst (λ old. Writes old c.args.at (bytes_of (count_of c.args.width) c.args.value) c.write_from.result c.write_from.new.self.bytes) c.if-store_near.ensures.stores
    (subst (λ source. Writes c.store_near.new.self.bytes c.args.at source c.write_from.result c.write_from.new.self.bytes)
    (low_bytes c.args.width c.args.value _ _ c.count.ensures c.to_le_bytes.ensures) c.write_from.ensures.writes)
