use Rattle.std.proofs.Common.{arith, ap, ◌∙◌, Some}
use Rattle.hex_langs.proofs.ItemsLemmas.Packing.{item-byte, item-other, item-past}
use Rattle.hex_langs.proofs.items.items.item_at.Goals as goal

pub returns-then-index-codes : goal.returns-then-index-codes
returns-then-index-codes c = item-past c.args.codes.now c.args.others.now c.args.index (omega arith)

pub returns-then-code-lt256 : goal.returns-then-code-lt256
returns-then-code-lt256 c = item-byte c.args.codes.now c.args.others.now c.args.index (omega arith) (omega arith)

pub returns-in-Some : goal.returns-in-Some
returns-in-Some c =
    ap Some c.copied.ensures
    ∙ item-other c.args.codes.now c.args.others.now c.args.index c.in-Some.item.now (omega arith) (omega arith) c.in-Some.ensures
