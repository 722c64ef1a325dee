use Rattle.std.proofs.Common.{refl}
use Rattle.paged_mem.specs.Inside.Entries.{flat}
use Rattle.paged_mem.specs.Inside.Flat.{memory_of}
use Rattle.paged_mem.specs.Ram.{count_of}
use Rattle.paged_mem.proofs.Accessed.{few, few_entries}
use Rattle.paged_mem.proofs.Seen.{none_read, number_read}
use Rattle.paged_mem.proofs.access.load_anywhere.Goals as goal

pub span-requires-clause-few : goal.span-requires-clause-few
span-requires-clause-few c = few c.args.pages.now c.args.entries.now c.requires

pub number_from-requires-clause-few : goal.number_from-requires-clause-few
number_from-requires-clause-few c = few_entries c.args.pages.now c.args.entries.now c.requires

pub returns-in-None-clause-value : goal.returns-in-None-clause-value
returns-in-None-clause-value c =
    none_read c.args.pages.now (flat c.args.entries.now) c.args.pages.now (memory_of c.args.pages.now (flat c.args.entries.now)) c.requires.sound refl refl
    c.args.at c.count.result (count_of c.args.width) c.count.ensures c.in-None.ensures

pub returns-in-Some-clause-value : goal.returns-in-Some-clause-value
returns-in-Some-clause-value c =
    number_read c.args.pages.now (flat c.args.entries.now) c.args.pages.now (memory_of c.args.pages.now (flat c.args.entries.now)) c.requires.sound refl refl
    c.args.at c.count.result (flat c.args.entries.now) c.in-Some.start (count_of c.args.width) c.number_from.result c.count.ensures refl c.in-Some.ensures c.number_from.ensures.value
