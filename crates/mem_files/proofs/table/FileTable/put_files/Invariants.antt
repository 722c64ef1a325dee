use Rattle.std.proofs.Common.{◌≡◌, length, map, sum_by, take}
use Rattle.mem_files.specs.World.{total}
use Rattle.mem_files.specs.Lists.{listed}
use Rattle.mem_files.proofs.ListWorlds.{of_files}
use Rattle.mem_files.proofs.table.FileTable.put_files.Given as goal

abbrev pub invariant-loop-file : goal.invariant-loop-file
invariant-loop-file l =
    record {
      world : l.self ≡ of_files (take l.file-index (map listed l.files));
      total : total l.self ≡ sum_by (λ file. length file.content) (take l.file-index (map listed l.files));
    }
