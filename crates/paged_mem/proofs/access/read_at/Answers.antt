use Rattle.std.proofs.Common.{None, Some, length, refl, sym, ap}
use Rattle.std.specs.Prelude.{unwrap_or}
use Rattle.paged_mem.specs.Inside.Entries.{flat}
use Rattle.paged_mem.specs.Inside.Flat.{memory_of}
use Rattle.paged_mem.proofs.Accessed.{few, few_entries}
use Rattle.paged_mem.proofs.Seen.{maps_seen, moved, no_bytes_seen}
use Rattle.paged_mem.proofs.access.read_at.Goals as goal

pub start_of-requires-clause-few : goal.start_of-requires-clause-few
start_of-requires-clause-few c = few c.args.pages.now c.args.entries.now c.requires.pages

pub read-requires-clause-few : goal.read-requires-clause-few
read-requires-clause-few c = few_entries c.args.pages.now c.args.entries.now c.requires.pages

pub returns-in-None-clause-answer : goal.returns-in-None-clause-answer
returns-in-None-clause-answer c =
    sym (maps_seen c.args.pages.now (flat c.args.entries.now) c.args.pages.now (memory_of c.args.pages.now (flat c.args.entries.now)) c.requires.pages.sound refl refl
    c.args.at (length c.args.out.now) None c.in-None.ensures)

pub returns-in-None-clause-moved : goal.returns-in-None-clause-moved
returns-in-None-clause-moved c =
    sym (ap (λ o. unwrap_or o c.args.out.now) (no_bytes_seen c.args.pages.now (flat c.args.entries.now) c.args.pages.now (memory_of c.args.pages.now (flat c.args.entries.now)) c.requires.pages.sound refl refl
    c.args.at (length c.args.out.now) c.in-None.ensures))

pub returns-in-Some-clause-answer : goal.returns-in-Some-clause-answer
returns-in-Some-clause-answer c =
    sym (maps_seen c.args.pages.now (flat c.args.entries.now) c.args.pages.now (memory_of c.args.pages.now (flat c.args.entries.now)) c.requires.pages.sound refl refl
    c.args.at (length c.args.out.now) (Some c.in-Some.start) c.in-Some.ensures)

pub returns-in-Some-clause-moved : goal.returns-in-Some-clause-moved
returns-in-Some-clause-moved c =
    moved c.args.pages.now (flat c.args.entries.now) c.args.pages.now (memory_of c.args.pages.now (flat c.args.entries.now)) c.requires.pages.sound refl refl
    c.args.at (length c.args.out.now) c.in-Some.start c.args.out.now c.read.new.out c.in-Some.ensures c.read.ensures
