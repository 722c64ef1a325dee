use Rattle.linux_calls.proofs.Heaps.{IsHeapOf-writes}
use Rattle.guest_tests.proofs.calls.Guest.put.Goals as goal

pub invariant_of-self : goal.invariant_of-self
invariant_of-self c = record {
  valid = IsHeapOf-writes c.args.self.now.ram.bytes c.write_from.new.self.bytes c.args.at c.args.bytes.now c.args.self.now.heap c.write_from.result c.write_from.ensures.writes c.args.self.now.valid;
}
