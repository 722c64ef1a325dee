use Rattle.std.proofs.Common.{All, ◌<◌, sym, subst}
use Rattle.checkpoints.specs.FileParts.Inside.Views.{AreParts, view_of}
use Rattle.checkpoints.proofs.FilePartsLemmas.Pushes.{open_file_pushed}
use Rattle.checkpoints.proofs.file_parts.parts.FileParts.push_open_file.Goals as goal

pub invariant_of-self-2 : goal.invariant_of-self-2
invariant_of-self-2 c =
    subst (λ open_files. AreParts (view_of c.self.inside.files.items open_files c.self.inside.streams.items)) (sym c.in_ok-push.ensures.items)
    (open_file_pushed c.args.fd c.args.open_file (view_of c.self.inside.files.items c.self.inside.open_files.items c.self.inside.streams.items) c.self.invariant (subst (λ lists. All (λ held. held.0 < c.args.fd) lists.open_files) (sym c.self.view_is) c.requires))
