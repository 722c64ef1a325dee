use Rattle.std.proofs.Common.{arith, ap, ◌∙◌}
use Rattle.std.specs.FinMap as map
use Rattle.mem_files.proofs.Maps.{get-lowest_unused, lowest_unused-le-len}
use Rattle.mem_files.proofs.table.FileTable.add_open_file.Goals as goal

pub put_open_file-requires-clause-unused : goal.put_open_file-requires-clause-unused
put_open_file-requires-clause-unused c = ap (map.get c.args.self.now.open_files) c.free_open_file-fd.ensures ∙ get-lowest_unused c.args.self.now.open_files

pub put_open_file-requires-clause-low : goal.put_open_file-requires-clause-low
put_open_file-requires-clause-low c = omega (arith, lowest_unused-le-len c.args.self.now.open_files)
