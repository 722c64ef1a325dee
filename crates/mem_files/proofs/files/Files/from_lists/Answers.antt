use Rattle.std.proofs.Common.{sym, subst}
use Rattle.mem_files.specs.Sound.{IsSound}
use Rattle.mem_files.proofs.ListRules.{lists-sound}
use Rattle.mem_files.proofs.files.Files.from_lists.Goals as goal

pub invariant_of-result : goal.invariant_of-result
invariant_of-result c = subst IsSound (sym c.in_ok-table.ensures) (lists-sound _ c.requires.ordered c.requires.within c.requires.joined)
