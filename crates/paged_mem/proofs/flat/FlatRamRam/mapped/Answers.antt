use Rattle.std.proofs.Common.{sym, ap, ◌∙◌}
use Rattle.paged_mem.proofs.Seen.{maps_seen}
use Rattle.paged_mem.proofs.flat.FlatRamRam.mapped.Goals as goal

pub returns : goal.returns
returns c =
    c.is_some.ensures
    ∙ sym (maps_seen c.self.inside.pages.items c.self.inside.bytes.items c.deref.result.now c.args.self.now.bytes c.self.inside.sound
    c.deref.ensures.value (ap (λ held. held.bytes) c.self.view_is) c.args.at c.args.count c.span.result c.span.ensures)
