use Rattle.std.proofs.Common.{add-one, ap, get_or}
use Rattle.std.specs.Prelude.{option_map}
use Rattle.rv64_machine.specs.Hart.{reserved_bytes}
use Rattle.checkpoints.proofs.Restored.{set_more}
use Rattle.checkpoints.proofs.restoring.hart_of.Goals as goal

pub loop-index-preserved : goal.loop-index-preserved
loop-index-preserved g c =
    set_more c.args.registers.now c.args.pc (g.R.Ram.bytes c.args.ram) (option_map reserved_bytes c.args.reservation) c.loop-index.index _ _ c.loop-index.hart c.set_reg.new.self c.told-registers c.loop-index-test.true
    (add-one c.loop-index.index) (ap (λ n. get_or c.args.registers.now n 0) c.from.ensures) c.loop-index.invariant c.set_reg.ensures
