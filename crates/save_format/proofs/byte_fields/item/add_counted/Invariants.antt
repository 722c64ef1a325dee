use Rattle.std.proofs.Common.{◌≡◌, ◌++◌, length, take, map}
use Rattle.std.specs.List.{flat_map}
use Rattle.std.specs.Int.{w32}
use Rattle.save_format.specs.ByteFields.Spelling.{number_text}
use Rattle.save_format.proofs.byte_fields.item.add_counted.Given as goal

abbrev pub invariant-loop-item : goal.invariant-loop-item
invariant-loop-item g l = l.out ≡ l.fn.out ++ (number_text w32 (length l.items) ++ flat_map g.T.TextItem.text (map g.T.TextItem.seen (take l.item-index l.items)))
