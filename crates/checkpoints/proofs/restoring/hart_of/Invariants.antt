use Rattle.std.proofs.Common.{◌≡◌, ◌∷◌, ◌++◌, ◌-◌, take}
use Rattle.std.specs.Prelude.{option_map, replicate}
use Rattle.rv64_machine.specs.Hart.{reserved_bytes}
use Rattle.checkpoints.proofs.restoring.hart_of.Given as goal

abbrev pub invariant-loop-index : goal.invariant-loop-index
invariant-loop-index g l = l.hart ≡ record { registers = 0 ∷ (take l.index l.registers ++ replicate (31 - l.index) 0); pc = l.pc; memory = g.R.Ram.bytes l.fn.ram; reservation = option_map reserved_bytes l.fn.reservation }
