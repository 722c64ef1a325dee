use Rattle.std.proofs.Common.{◌≡◌, ◌-◌, map}
use Rattle.save_format.specs.ByteFields.Reader.{several}
use Rattle.save_format.proofs.ByteFieldsLemmas.Loop.{with_prefix}
use Rattle.save_format.proofs.byte_fields.item.items.Given as goal

abbrev pub invariant-loop : goal.invariant-loop
invariant-loop g l =
    with_prefix (map g.T.TextItem.seen l.items.items) (several g.T.TextItem.read_from g.T.TextItem.next_least l.least (l.count - l.counter) l.cursor)
    ≡ several g.T.TextItem.read_from g.T.TextItem.next_least 0 l.count l.fn.cursor
