use Rattle.std.proofs.Common.{drop, ap, ◌∙◌}
use Rattle.mem_files.proofs.Tournament.{refilled, set_leaf}
use Rattle.mem_files.proofs.numbers.Numbers.mark.Goals as goal

pub returns : goal.returns
returns c =
    ap (drop c.self.inside.leaves) (refilled c.self.inside.full.len c.settle.new.full _ (c.settle.auto.full ∙ c.deref_mut.ensures.len))
    ∙ set_leaf c.self.inside.full.items c.self.inside.leaves c.self.inside.height c.self.invariant c.args.self.now c.self.view_is c.args.number c.args.used c.settle.new.full c.requires
    (rw c.deref_mut.ensures.value at c.settle.ensures.leaves)
