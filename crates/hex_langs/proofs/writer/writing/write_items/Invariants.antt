use Rattle.std.proofs.Common.{◌≡◌, take}
use Rattle.hex_langs.specs.Writer.Writing.{items_text}
use Rattle.hex_langs.proofs.writer.writing.write_items.Given as goal

abbrev pub invariant-loop-index : goal.invariant-loop-index
invariant-loop-index l = l.text ≡ items_text (take l.index l.items)
