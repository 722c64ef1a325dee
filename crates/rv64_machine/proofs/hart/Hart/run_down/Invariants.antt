use Rattle.std.proofs.Common.{◌≡◌, ℕ, ◌-◌, ◌≤◌, Some}
use Rattle.std.specs.FinMap.{contains_key}
use Rattle.rv64_machine.specs.Hart.{passed}
use Rattle.rv64_machine.proofs.hart.Hart.run_down.Given as goal

abbrev pub invariant-loop-remaining : goal.invariant-loop-remaining
invariant-loop-remaining g l =
    (l.remaining ≤ l.fn.most) × (passed (Some l.fn.stop) l.fn.self (l.fn.most - l.remaining) ≡ Some l.self)
    × ((address : ℕ) → contains_key l.self.memory address ≡ contains_key l.fn.self.memory address)

abbrev pub decreases-loop-remaining : goal.decreases-loop-remaining
decreases-loop-remaining g l = l.remaining
