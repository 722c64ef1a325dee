use Rattle.std.proofs.Common.{◌≡◌, ◌++◌, take}
use Rattle.save_format.specs.StateText.Encoded.{u64s}
use Rattle.save_format.proofs.state_text.writing.put_registers.Given as goal

abbrev pub invariant-loop-register : goal.invariant-loop-register
invariant-loop-register l = l.out ≡ l.fn.out ++ u64s (take l.register-index l.registers)
