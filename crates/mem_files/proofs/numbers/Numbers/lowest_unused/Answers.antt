use Rattle.std.proofs.Common.{sym, ◌∙◌, false}
use Rattle.std.proofs.lemmas.List.{get_or_read}
use Rattle.mem_files.proofs.Tournament.{all_marked, has_root, used_below}
use Rattle.mem_files.proofs.numbers.Numbers.lowest_unused.Goals as goal

pub returns-then-index-clause-used : goal.returns-then-index-clause-used
returns-then-index-clause-used c =
    let there = has_root c.self.inside.full.items c.self.inside.leaves c.self.inside.height c.self.invariant c.args.self.now c.self.view_is in
    used_below c.self.inside.full.items c.self.inside.leaves c.self.inside.height c.self.invariant c.args.self.now c.self.view_is
    (all_marked c.self.inside.full.items c.self.inside.height c.self.invariant.sized c.self.invariant.right (sym (get_or_read c.self.inside.full.items 1 c.index.result.now there c.index.ensures false) ∙ c.if-index.true))
