use Rattle.std.proofs.Common.{ap, ◌∙◌}
use Rattle.std.specs.FinMap as map
use Rattle.mem_files.proofs.Maps.{get-lowest_unused}
use Rattle.mem_files.proofs.table.FileTable.add_file.Goals as goal

pub put_named-requires-clause-unused : goal.put_named-requires-clause-unused
put_named-requires-clause-unused c = ap (map.get c.args.self.now.files) c.free_number-number.ensures ∙ get-lowest_unused c.args.self.now.files
