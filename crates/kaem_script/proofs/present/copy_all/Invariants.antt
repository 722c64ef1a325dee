use Rattle.std.proofs.Common.{length, option_copied}
use Rattle.kaem_script.proofs.Renewing.{Placing, names_after}
use Rattle.kaem_script.proofs.present.copy_all.Given as goal

abbrev pub invariant-loop-name : goal.invariant-loop-name
invariant-loop-name l = Placing l.given (option_copied l.last) l.files

abbrev pub decreases-loop-name : goal.decreases-loop-name
decreases-loop-name l = length (names_after l.given (option_copied l.last))
