use Rattle.std.proofs.Common.{◌≡◌, take}
use Rattle.std.specs.FinMap as map
use Rattle.mem_files.proofs.table.FileTable.put_open_files.Given as goal

abbrev pub invariant-loop-fd : goal.invariant-loop-fd
invariant-loop-fd l = l.self ≡ record l.fn.self { open_files = map.from_entries (take l.fd-index l.open_files) }
