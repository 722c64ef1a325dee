use Rattle.std.proofs.Common.{arith, ap, length}
use Rattle.hex_langs.proofs.ItemsLemmas.Packing.{length-packed}
use Rattle.hex_langs.proofs.items.items.Items.len.Goals as goal

pub returns-clause-value : goal.returns-clause-value
returns-clause-value c =
    omega (arith, length-packed c.self.inside.codes.items c.self.inside.others.items, ap length c.self.view_is, c.len.ensures)
