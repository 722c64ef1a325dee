use Rattle.std.proofs.Common.{ap, subst}
use Rattle.mem_files.specs.Sound.{IsSound}
use Rattle.mem_files.proofs.Rules.{sought-sound}
use Rattle.mem_files.proofs.files.Files.seek.Goals as goal

pub invariant_of-self : goal.invariant_of-self
invariant_of-self c = subst IsSound (ap (λ answer. answer.1) c.seek.ensures) (sought-sound _ c.args.fd _ c.args.whence c.self.invariant)
