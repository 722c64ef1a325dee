use Rattle.std.proofs.Common.{take}
use Rattle.hex_langs.specs.Items.Labels.{label_names}
use Rattle.hex_langs.specs.NameKeys.{Took}
use Rattle.hex_langs.proofs.link.labels.count_and_key.Given as goal

abbrev pub invariant-loop-item : goal.invariant-loop-item
invariant-loop-item l = Took l.names (label_names (take l.item-index l.items))
