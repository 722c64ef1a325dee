use Rattle.std.proofs.Common.{length}
use Rattle.kaem_script.proofs.Moving.{Moving}
use Rattle.kaem_script.proofs.Renewing.{Placing, names_after}
use Rattle.kaem_script.proofs.present.move_all.Given as goal

abbrev pub invariant-loop-last : goal.invariant-loop-last
invariant-loop-last l = record {
  placing : Placing l.fn.left l.last l.files;
  moving : Moving l.fn.left l.last l.left;
}

abbrev pub decreases-loop-last : goal.decreases-loop-last
decreases-loop-last l = length (names_after l.fn.left l.last)
