use Rattle.std.proofs.Common.{sym, subst}
use Rattle.mem_files.specs.Sound.{IsSound}
use Rattle.mem_files.proofs.Rules.{first-sound}
use Rattle.mem_files.proofs.files.Files.new.Goals as goal

pub invariant_of-result : goal.invariant_of-result
invariant_of-result c = subst IsSound (sym c.in_ok-table.ensures) first-sound
