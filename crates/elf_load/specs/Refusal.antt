-- The numbers of the loader's refusals, in the order in which they are tried.
use Rattle.std.specs.Prelude.{ℕ}
use Rattle.elf_load.specs.declared.refusal.ElfRefusal.{ElfRefusal}
use Rattle.elf_load.specs.declared.refusal.ElfRefusal.TheVariants.{Short, Magic, Class, Machine, Kind, HeaderRange, Interpreter, NoLoad, TooMany, SegmentRange, Overlap, EntryOutside}

abbrev pub rank : ElfRefusal → ℕ
rank Short = 1
rank Magic = 2
rank Class = 3
rank Machine = 4
rank Kind = 5
rank HeaderRange = 6
rank Interpreter = 7
rank NoLoad = 8
rank TooMany = 9
rank SegmentRange = 10
rank Overlap = 11
rank EntryOutside = 12
