use Rattle.std.proofs.Common.{◌∙◌, ap, sym, find}
use Rattle.std.specs.Option.{option_copied}
use Rattle.mem_files.specs.Calls.{is_after}
use Rattle.ddc_base.specs.Limits.{most_name}
use Rattle.mem_files.proofs.After.{all_short}
use Rattle.mem_files.proofs.Directory.{keys-keyed}
use Rattle.mem_files.proofs.Changes.{keys-is, held_short}
use Rattle.mem_files.proofs.table.FileTable.name_after.Goals as goal

pub next_name-requires : goal.next_name-requires
next_name-requires c = all_short (λ name. name.items) most_name c.self.inside.names.entries (held_short _ _ c.self.view_is c.self.invariant)

pub returns : goal.returns
returns c =
    c.next_name.ensures
    ∙ sym (ap (find (is_after (option_copied c.args.name))) (keys-is _ _ c.self.view_is c.self.invariant ∙ keys-keyed (λ name. name.items) c.self.inside.names.entries))
