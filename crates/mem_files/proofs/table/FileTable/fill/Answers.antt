use Rattle.std.proofs.Common.{sym}
use Rattle.mem_files.proofs.table.FileTable.fill.Goals as goal

pub overwrite-requires-clause-held : goal.overwrite-requires-clause-held
overwrite-requires-clause-held c =
    c.requires.sound.joined.open_held c.args.fd c.in-Some-File.number c.in-Some-File.file_offset c.in-Some-File.access (sym (rw c.in-Some-File.field-0-is at c.in-Some-File.ensures))
