use Rattle.std.proofs.Common.{◌≤◌, ◌+◌, ◌*◌, drop}
use Rattle.hex_langs.specs.Items.Labels.{label_names}
use Rattle.hex_langs.specs.NameKeys.{IsKeyedBy}
use Rattle.hex_langs.proofs.LinkLemmas.Labellings.{IsTableOf}
use Rattle.hex_langs.proofs.link.labels.labels_of.Given as goal

-- the table of the items so far
abbrev pub invariant-loop-index : goal.invariant-loop-index
invariant-loop-index l = record {
  table : IsTableOf l.items l.base l.table l.index l.address (drop l.index l.items);
  keyed : IsKeyedBy (label_names l.items) l.table;
  near : l.address ≤ l.base + 4 * l.index;
}
