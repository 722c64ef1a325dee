use Rattle.std.proofs.Common.{refl, sym, ◌∙◌}
use Rattle.paged_mem.specs.Inside.Entries.{flat}
use Rattle.paged_mem.specs.Inside.Flat.{memory_of}
use Rattle.paged_mem.proofs.Accessed.{few}
use Rattle.paged_mem.proofs.Seen.{maps_seen}
use Rattle.paged_mem.proofs.access.mapped_at.Goals as goal

pub start_of-requires-clause-few : goal.start_of-requires-clause-few
start_of-requires-clause-few c = few c.args.pages.now c.args.entries.now c.requires.pages

pub returns : goal.returns
returns c =
    c.is_some.ensures
    ∙ sym (maps_seen c.args.pages.now (flat c.args.entries.now) c.args.pages.now (memory_of c.args.pages.now (flat c.args.entries.now)) c.requires.pages.sound refl refl
    c.args.at c.args.count c.start_of.result c.start_of.ensures)
