use Rattle.std.proofs.Common.{sym}
use Rattle.mem_files.proofs.table.FileTable.take_content.Goals as goal

pub take-requires : goal.take-requires
take-requires c = c.requires.joined.held c.args.name.now c.in-Some.number (sym c.in-Some.ensures)
