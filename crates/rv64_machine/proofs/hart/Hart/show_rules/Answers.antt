use Rattle.std.proofs.Common.{subst}
use Rattle.rv64_machine.specs.Hart.{IsHart}
use Rattle.rv64_machine.proofs.hart.Hart.show_rules.Goals as goal

pub returns-clause-hart : goal.returns-clause-hart
returns-clause-hart g c =
    let (count, zero, aligned, reserved) = c.self.invariant in
    subst IsHart c.self.view_is (record { count = count; zero = zero; aligned = aligned; whole = g.met.R.Ram.whole c.self.inside.ram; reserved = reserved })
