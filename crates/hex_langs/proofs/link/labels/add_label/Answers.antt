use Rattle.std.proofs.Common.{◌∙◌}
use Rattle.ddc_base.specs.declared.byte_list.OutOfMemory.{OutOfMemory}
use Rattle.hex_langs.proofs.LinkLemmas.Labellings.{adds-label}
use Rattle.hex_langs.proofs.link.labels.add_label.Goals as goal

pub returns-in_ok-insert-in-Label-clause-adds : goal.returns-in_ok-insert-in-Label-clause-adds
returns-in_ok-insert-in-Label-clause-adds c =
    adds-label OutOfMemory c.in-Label.name c.new.result c.args.item.now c.args.address c.is_some.result c.in_ok-insert-in-Label.field-0 c.args.table.now
    c.insert.new.self c.in-Label.is (c.new.ensures ∙ c.bytes.ensures) c.is_some.ensures c.in_ok-insert-in-Label.ensures.old
    c.in_ok-insert-in-Label.ensures.updates.0
