use Rattle.std.proofs.Common.{ap, ◌∙◌}
use Rattle.std.specs.FinMap as map
use Rattle.mem_files.specs.declared.open_file.OpenFile.TheVariants.{Stream1, Stream2}
use Rattle.mem_files.specs.World.{World}
use Rattle.mem_files.proofs.First.{first_unused, second_unused, third_unused}
use Rattle.mem_files.proofs.table.FileTable.new.Goals as goal

pub put_open_file-requires-clause-unused : goal.put_open_file-requires-clause-unused
put_open_file-requires-clause-unused c = ap (λ (w : World). map.get w.open_files 2) c.in_ok-table.ensures ∙ first_unused

pub put_open_file-requires-2-clause-unused : goal.put_open_file-requires-2-clause-unused
put_open_file-requires-2-clause-unused c =
    ap (λ (w : World). map.get w.open_files 1) c.in_ok-put_open_file.ensures.ok ∙ ap (λ (w : World). map.get (map.insert w.open_files 2 Stream2) 1) c.in_ok-table.ensures ∙ second_unused

pub put_open_file-requires-3-clause-unused : goal.put_open_file-requires-3-clause-unused
put_open_file-requires-3-clause-unused c =
    ap (λ (w : World). map.get w.open_files 0) c.in_ok-put_open_file-2.ensures.ok
    ∙ ap (λ (w : World). map.get (map.insert w.open_files 1 Stream1) 0) c.in_ok-put_open_file.ensures.ok
    ∙ ap (λ (w : World). map.get (map.insert (map.insert w.open_files 2 Stream2) 1 Stream1) 0) c.in_ok-table.ensures ∙ third_unused
