use Rattle.std.proofs.Common.{arith}
use Rattle.mem_files.proofs.Overwrites.{put_is}
use Rattle.mem_files.proofs.stored.put.Goals as goal

pub returns-clause-ok : goal.returns-clause-ok
returns-clause-ok c =
    put_is c.args.content.now.items c.args.bytes.now c.grow.new.content.items c.copy_at.new.content c.args.offset _ c.in_ok-grow.ensures.ok (rw c.deref_mut.ensures.value at c.copy_at.ensures) (omega arith)
