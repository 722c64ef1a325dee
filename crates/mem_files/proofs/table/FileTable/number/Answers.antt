use Rattle.std.proofs.Common.{◌∙◌, sym, ap, arith}
use Rattle.std.specs.Map.{lookup}
use Rattle.std.specs.Ordering.{is_eq}
use Rattle.mem_files.specs.Names.{bytes_cmp}
use Rattle.mem_files.proofs.Directory.{find-keyed}
use Rattle.mem_files.proofs.Changes.{number-is, no_long_name, whole_key}
use Rattle.mem_files.proofs.table.FileTable.number.Goals as goal

pub returns-then-name-gt-MOST_NAME : goal.returns-then-name-gt-MOST_NAME
returns-then-name-gt-MOST_NAME c = no_long_name _ _ c.self.view_is c.self.invariant c.args.name.now (omega arith)

pub returns-else-name-gt-MOST_NAME : goal.returns-else-name-gt-MOST_NAME
returns-else-name-gt-MOST_NAME c =
    c.copied-held.ensures ∙ c.get.ensures.value
    ∙ ap (λ bytes. lookup (λ k. is_eq (bytes_cmp bytes k.items)) c.self.inside.names.entries) (whole_key c.args.name.now c.key.result.items (omega arith) c.key.ensures)
    ∙ sym (find-keyed (λ name. name.items) c.args.name.now c.self.inside.names.entries)
    ∙ sym (number-is _ _ c.self.view_is c.self.invariant c.args.name.now)
