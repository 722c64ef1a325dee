use Rattle.std.proofs.Common.{◌≡◌, ◌∙◌, sym, subst}
use Rattle.mem_files.specs.Lists.{FileLists, AreJoined}
use Rattle.checkpoints.specs.FileParts.Inside.Judged.{are_joined}
use Rattle.checkpoints.specs.FileParts.Inside.Views.{view_of}
use Rattle.checkpoints.proofs.FilePartsLemmas.Meaning.{joined-says, joined-passes}
use Rattle.checkpoints.proofs.file_parts.parts.FileParts.is_joined.Goals as goal

pub returns : goal.returns
returns c =
    let streams = c.self.inside.streams.items in
    let lists : FileLists = view_of c.self.inside.files.items c.self.inside.open_files.items streams in
    let same : c.are_joined.result ≡ are_joined lists = c.are_joined.ensures streams ∙ (λ i. are_joined (view_of (c.deref.ensures.value i) (c.deref-2.ensures.value i) streams)) in (
      λ yes. subst AreJoined c.self.view_is (joined-says lists (sym same ∙ yes)),
      λ refer. same ∙ joined-passes lists (subst AreJoined (sym c.self.view_is) refer),
    )
