use Rattle.std.proofs.Common.{◌≡◌}
use Rattle.std.specs.List.{list_any}
use Rattle.elf_load.specs.Fields.{headers}
use Rattle.elf_load.specs.Segments.{is_interpreter}
use Rattle.elf_load.proofs.Tables.{headers_from}
use Rattle.elf_load.proofs.table.has_interpreter.Given as goal

abbrev pub invariant-loop-index : goal.invariant-loop-index
invariant-loop-index l =
    list_any (is_interpreter l.file) (headers_from l.file l.index) ≡ list_any (is_interpreter l.file) (headers l.file)
