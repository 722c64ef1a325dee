use Rattle.std.proofs.Common.{ap, subst}
use Rattle.mem_files.specs.Sound.{IsSound}
use Rattle.mem_files.proofs.Rules.{removed-sound}
use Rattle.mem_files.proofs.files.Files.remove.Goals as goal

pub invariant_of-self : goal.invariant_of-self
invariant_of-self c = subst IsSound (ap (λ answer. answer.1) c.remove.ensures) (removed-sound _ c.args.name.now c.self.invariant)
