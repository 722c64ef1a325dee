use Rattle.std.proofs.lemmas.List.{take_rest}
use Rattle.command_plan.proofs.Listing.{cut-there, more-clear, uncut}
use Rattle.command_plan.proofs.lists.next_line.Goals as goal

pub returns-then-byte-eq10-clause-lines : goal.returns-then-byte-eq10-clause-lines
returns-then-byte-eq10-clause-lines c = rw take_rest (cut-there _ _ c.loop-at-test.true c.loop-at.invariant c.if-byte-eq10.true)

pub loop-at-preserved : goal.loop-at-preserved
loop-at-preserved c = more-clear _ _ c.loop-at-test.true c.loop-at.invariant c.if-byte-eq10.false

pub returns-clause-lines : goal.returns-clause-lines
returns-clause-lines c = uncut _ _ c.loop-at-test.false c.loop-at.invariant
