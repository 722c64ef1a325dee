use Rattle.std.proofs.Common.{◌-◌}
use Rattle.save_format.specs.ByteFields.Reader.{counted}
use Rattle.save_format.proofs.ByteFieldsLemmas.Loop.{Went}
use Rattle.save_format.proofs.byte_fields.item.pass_counted.Given as goal

abbrev pub invariant-loop : goal.invariant-loop
invariant-loop g l =
    Went g.T.TextItem.read_from g.T.TextItem.next_least l.least (l.count - l.counter) l.cursor (counted g.T.TextItem.read_from g.T.TextItem.next_least 0 l.fn.cursor)
