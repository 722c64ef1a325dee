use Rattle.std.proofs.Common.{ap}
use Rattle.paged_mem.specs.Ram.{count_of}
use Rattle.paged_mem.proofs.Seen.{none_read, number_read}
use Rattle.paged_mem.proofs.flat.FlatRamRam.load.Goals as goal

pub returns-in-None-clause-value : goal.returns-in-None-clause-value
returns-in-None-clause-value c =
    none_read c.self.inside.pages.items c.self.inside.bytes.items c.deref.result.now c.args.self.now.bytes c.self.inside.sound
    c.deref.ensures.value (ap (λ held. held.bytes) c.self.view_is) c.args.at c.count.result (count_of c.args.width) c.count.ensures c.in-None.ensures

pub returns-in-Some-clause-value : goal.returns-in-Some-clause-value
returns-in-Some-clause-value c =
    number_read c.self.inside.pages.items c.self.inside.bytes.items c.deref.result.now c.args.self.now.bytes c.self.inside.sound
    c.deref.ensures.value (ap (λ held. held.bytes) c.self.view_is) c.args.at c.count.result c.deref-in-Some.result.now c.in-Some.start (count_of c.args.width) c.number.result
    c.count.ensures c.deref-in-Some.ensures.value c.in-Some.ensures c.number.ensures.value
