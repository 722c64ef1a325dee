use Rattle.std.proofs.Common.{arith, ap, length}
use Rattle.hex_langs.proofs.ItemsLemmas.Packing.{length-packed}
use Rattle.hex_langs.proofs.items.items.Items.push_bytes.Goals as goal

pub add_bytes-requires-clause-capacity : goal.add_bytes-requires-clause-capacity
add_bytes-requires-clause-capacity c =
    omega (arith, length-packed c.self.inside.codes.items c.self.inside.others.items, ap length c.self.view_is, c.requires)
