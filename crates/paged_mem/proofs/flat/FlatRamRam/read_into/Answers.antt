use Rattle.std.proofs.Common.{sym, ap, ◌∙◌, unwrap_or, length, take, drop, None, Some}
use Rattle.paged_mem.proofs.Seen.{maps_seen, no_bytes_seen, moved}
use Rattle.paged_mem.proofs.flat.FlatRamRam.read_into.Goals as goal

pub returns-in-None-clause-answer : goal.returns-in-None-clause-answer
returns-in-None-clause-answer c =
    sym (maps_seen c.self.inside.pages.items c.self.inside.bytes.items c.deref.result.now c.args.self.now.bytes c.self.inside.sound
    c.deref.ensures.value (ap (λ held. held.bytes) c.self.view_is) c.args.at (length c.args.out.now) None c.in-None.ensures)

pub returns-in-None-clause-moved : goal.returns-in-None-clause-moved
returns-in-None-clause-moved c =
    sym (ap (λ o. unwrap_or o c.args.out.now) (no_bytes_seen c.self.inside.pages.items c.self.inside.bytes.items c.deref.result.now c.args.self.now.bytes c.self.inside.sound
    c.deref.ensures.value (ap (λ held. held.bytes) c.self.view_is) c.args.at (length c.args.out.now) c.in-None.ensures))

pub returns-in-Some-clause-answer : goal.returns-in-Some-clause-answer
returns-in-Some-clause-answer c =
    sym (maps_seen c.self.inside.pages.items c.self.inside.bytes.items c.deref.result.now c.args.self.now.bytes c.self.inside.sound
    c.deref.ensures.value (ap (λ held. held.bytes) c.self.view_is) c.args.at (length c.args.out.now) (Some c.in-Some.start) c.in-Some.ensures)

pub returns-in-Some-clause-moved : goal.returns-in-Some-clause-moved
returns-in-Some-clause-moved c =
    moved c.self.inside.pages.items c.self.inside.bytes.items c.deref.result.now c.args.self.now.bytes c.self.inside.sound
    c.deref.ensures.value (ap (λ held. held.bytes) c.self.view_is) c.args.at (length c.args.out.now) c.in-Some.start c.args.out.now c.fill.new.out c.in-Some.ensures
    (c.fill.ensures ∙ ap (λ bytes. take (length c.args.out.now) (drop c.in-Some.start bytes)) c.deref-in-Some.ensures.value)
