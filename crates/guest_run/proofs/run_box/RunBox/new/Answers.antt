use Rattle.guest_run.proofs.Boxes.{empty-box}
use Rattle.guest_run.proofs.run_box.RunBox.new.Goals as goal

pub invariant_of-result : goal.invariant_of-result
invariant_of-result c = rw (c.new.ensures.items, c.new-2.ensures.items, c.new-3.ensures) (empty-box c.args.heap c.requires)
