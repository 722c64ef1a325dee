use Rattle.std.proofs.Common.{◌≡◌, IsOkAnd, length, sym, subst}
use Rattle.mem_files.specs.World.{World}
use Rattle.mem_files.specs.Calls.{ready}
use Rattle.mem_files.specs.Sound.{IsSound}
use Rattle.mem_files.proofs.Rules.{skipped-sound}
use Rattle.mem_files.proofs.files.Files.skip.Goals as goal

pub invariant_of-self : goal.invariant_of-self
invariant_of-self c =
    let read = subst (λ (w : World). IsOkAnd (ready w c.args.fd c.args.count) (λ bytes. length bytes ≡ c.args.count)) (sym c.self.view_is) c.requires in
    subst IsSound (sym c.skip.ensures) (skipped-sound _ c.args.fd c.args.count c.self.invariant read)
