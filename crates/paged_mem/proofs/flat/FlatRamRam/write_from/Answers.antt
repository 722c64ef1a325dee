use Rattle.std.proofs.Common.{refl, ap, length, None, Some}
use Rattle.paged_mem.proofs.Seen.{maps_seen, written}
use Rattle.paged_mem.proofs.flat.FlatRamRam.write_from.Goals as goal

pub returns-in-None-clause-writes : goal.returns-in-None-clause-writes
returns-in-None-clause-writes c = (
  maps_seen c.self.inside.pages.items c.self.inside.bytes.items c.deref.result.now c.args.self.now.bytes c.self.inside.sound
      c.deref.ensures.value (ap (λ held. held.bytes) c.self.view_is) c.args.at (length c.args.source.now) None c.in-None.ensures,
  refl,
)

pub returns-in-Some-clause-writes : goal.returns-in-Some-clause-writes
returns-in-Some-clause-writes c = (
  maps_seen c.self.inside.pages.items c.self.inside.bytes.items c.deref.result.now c.args.self.now.bytes c.self.inside.sound
      c.deref.ensures.value (ap (λ held. held.bytes) c.self.view_is) c.args.at (length c.args.source.now) (Some c.in-Some.start) c.in-Some.ensures,
  written c.self.inside.pages.items c.self.inside.bytes.items c.deref.result.now c.args.self.now.bytes c.self.inside.sound
      c.deref.ensures.value (ap (λ held. held.bytes) c.self.view_is) c.args.at c.in-Some.start c.args.source.now _ c.in-Some.ensures c.put.ensures,
)
