use Rattle.std.proofs.Common.{◌≡◌, false, take}
use Rattle.std.specs.List.{list_any}
use Rattle.elf_load.specs.Segments.{share_page}
use Rattle.elf_load.proofs.checks.shares_with_one.Given as goal

abbrev pub invariant-loop-other : goal.invariant-loop-other
invariant-loop-other l = list_any (share_page l.segment) (take l.other-index l.others) ≡ false
