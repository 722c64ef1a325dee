use Rattle.std.proofs.Common.{sym, subst}
use Rattle.rv64_machine.specs.Hart.{Acts}
use Rattle.rv64_machine.proofs.ActLemmas.{Acts-same}
use Rattle.rv64_machine.proofs.laws.equal_harts_step_alike.Goals as goal

pub returns-clause-alike : goal.returns-clause-alike
returns-clause-alike g c =
    let second = subst (λ h. Acts h c.step-2.result c.step-2.new.self) (sym c.requires) c.step-2.ensures.act in
    Acts-same c.args.one.now c.step.new.self c.step-2.new.self c.step.result c.step-2.result c.step.ensures.act second
