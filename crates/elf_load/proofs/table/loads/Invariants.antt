use Rattle.std.proofs.Common.{◌≡◌, ◌≤◌, ◌++◌, length}
use Rattle.elf_load.specs.Segments.{loads_among, segments_of}
use Rattle.elf_load.proofs.Tables.{headers_from}
use Rattle.elf_load.proofs.table.loads.Given as goal

abbrev pub invariant-loop-index : goal.invariant-loop-index
invariant-loop-index l =
    (l.segments.items ++ loads_among l.file (headers_from l.file l.index) ≡ segments_of l.file) × (length l.segments.items ≤ 16)
