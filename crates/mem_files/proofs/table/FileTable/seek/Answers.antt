use Rattle.std.proofs.Common.{sym, ap, length, arith}
use Rattle.mem_files.specs.declared.open_file.OpenFile.TheVariants.{File}
use Rattle.mem_files.proofs.KeepingCalls.{base_small, content_small}
use Rattle.mem_files.proofs.Rules.{kept_of}
use Rattle.mem_files.proofs.table.FileTable.seek.Goals as goal

pub moved_file_offset-requires : goal.moved_file_offset-requires
moved_file_offset-requires c =
    base_small c.args.whence c.in-Some-File.file_offset _ c.in-Some.base
    (c.requires.within.good_open_files c.args.fd (File c.in-Some-File.number c.in-Some-File.file_offset c.in-Some-File.access) (sym (rw c.in-Some-File.field-0-is at c.in-Some-File.ensures)))
    (omega (arith, ap length c.content.ensures, content_small c.args.self.now c.in-Some-File.number (kept_of c.args.self.now c.requires))) c.in-Some.ensures
