-- How a descriptor uses its file.
use Rattle.std.specs.Prelude.{Bool, true, false}
use Rattle.mem_files.specs.declared.open_file.Mode.{Mode}
use Rattle.mem_files.specs.declared.open_file.Mode.TheVariants.{Read, Write, ReadWrite}
use Rattle.mem_files.specs.declared.open_file.Access.{Access}

abbrev pub mode_reads : Mode → Bool
mode_reads Read = true
mode_reads Write = false
mode_reads ReadWrite = true

abbrev pub mode_writes : Mode → Bool
mode_writes Read = false
mode_writes Write = true
mode_writes ReadWrite = true

-- may the file be read?
abbrev pub is_read : Access → Bool
is_read access = mode_reads access.mode

-- may the file be written?
abbrev pub is_written : Access → Bool
is_written access = mode_writes access.mode
