use Rattle.std.proofs.Common.{sym, ◌∙◌}
use Rattle.paged_mem.proofs.Flats.{content-absent}
use Rattle.paged_mem.specs.Memory.{zeros}
use Rattle.paged_mem.proofs.entries.hold.Goals as goal

pub returns-in-Ok-clause-bytes : goal.returns-in-Ok-clause-bytes
unfolding zeros
returns-in-Ok-clause-bytes c = c.in-Ok.ensures.ok ∙ sym (content-absent c.args.entry.now (sym c.is_some.ensures ∙ c.if-is_some.false))
