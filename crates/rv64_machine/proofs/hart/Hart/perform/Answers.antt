use Rattle.rv64_machine.proofs.Keeping.{meaning-wide}
use Rattle.rv64_machine.proofs.hart.Hart.perform.Goals as goal

pub carry_out-requires-clause-wide : goal.carry_out-requires-clause-wide
carry_out-requires-clause-wide g c = rw c.effect_of-effect.ensures (meaning-wide c.decode_as-inst.result.op _ _ _ _)
