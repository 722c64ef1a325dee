use Rattle.std.proofs.Common.{arith}
use Rattle.hex_langs.proofs.ItemsLemmas.Packing.{bytes-packed, bytes-pushed}
use Rattle.hex_langs.proofs.items.items.add_bytes.Goals as goal

pub returns-clause-packed : goal.returns-clause-packed
returns-clause-packed c =
    bytes-packed c.add_four.result c.args.codes.now.items c.add_four.new.codes.items c.args.others.now c.args.bytes c.add_four.ensures.ok c.add_four.ensures.err
    c.add_four.ensures.small (omega (arith, c.add_four.ensures.four, c.requires.capacity)) c.requires.packed

pub returns-clause-ok : goal.returns-clause-ok
returns-clause-ok c =
    bytes-pushed c.add_four.result c.args.codes.now.items c.add_four.new.codes.items c.args.others.now c.args.bytes c.add_four.ensures.ok c.add_four.ensures.small
