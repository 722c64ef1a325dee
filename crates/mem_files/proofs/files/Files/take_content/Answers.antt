use Rattle.std.proofs.Common.{sym, subst}
use Rattle.mem_files.specs.Sound.{IsSound}
use Rattle.mem_files.proofs.Rules.{drained-sound}
use Rattle.mem_files.proofs.files.Files.take_content.Goals as goal

pub invariant_of-self : goal.invariant_of-self
invariant_of-self c = subst IsSound (sym c.take_content.ensures.left) (drained-sound _ c.args.name.now c.self.invariant)
