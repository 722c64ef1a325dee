use Rattle.audit_run.proofs.CheckLemmas.Others.{SameBelow}
use Rattle.audit_run.proofs.check.items.first_other_item.Given as goal

abbrev pub invariant-loop-index : goal.invariant-loop-index
invariant-loop-index l = SameBelow l.fn.ours l.fn.theirs l.index
