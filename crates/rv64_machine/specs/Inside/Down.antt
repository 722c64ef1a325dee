-- Steps up to an address in the code's loop, which counts down. To read the promises, this file is not needed.
use Rattle.std.specs.Prelude.{◌≡◌, ℕ, ◌-◌, ◌%◌, ◌<◌, ◌≤◌, ◌⊎◌, Some}
use Rattle.rv64_machine.specs.declared.answer.StepEnd.{StepEnd}
use Rattle.rv64_machine.specs.declared.answer.StepEnd.TheVariants as end
use Rattle.rv64_machine.specs.Hart.{HartState, Acts, ComesTo, passed}

-- how the steps ended, and how many were left; a stop that was reached is a multiple of 4, as each pc is
abbrev pub ActsDown : ℕ → HartState → ℕ → ℕ → StepEnd → HartState → Type 0
ActsDown stop old most remaining end.Done new =
    ((remaining ≡ 0) × (passed (Some stop) old most ≡ Some new)) ⊎ (ComesTo (Some stop) old most (most - remaining) new × (remaining < most) × (stop % 4 ≡ 0))
ActsDown stop old most remaining end.Call new = (0 < remaining) × (remaining ≤ most) × (passed (Some stop) old (most - remaining) ≡ Some new) × Acts new end.Call new
ActsDown stop old most remaining (end.Trap cause) new =
    (0 < remaining) × (remaining ≤ most) × (passed (Some stop) old (most - remaining) ≡ Some new) × Acts new (end.Trap cause) new
ActsDown stop old most remaining end.OutOfMemory new =
    (0 < remaining) × (remaining ≤ most) × (passed (Some stop) old (most - remaining) ≡ Some new) × Acts new end.OutOfMemory new
