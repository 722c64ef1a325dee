use Rattle.std.proofs.Common.{◌≡◌, ◌∙◌, sym, subst}
use Rattle.mem_files.specs.Lists.{FileLists, AreInRange}
use Rattle.checkpoints.specs.FileParts.Inside.Judged.{in_range}
use Rattle.checkpoints.specs.FileParts.Inside.Views.{view_of}
use Rattle.checkpoints.proofs.FilePartsLemmas.Meaning.{in_range-says, range-passes}
use Rattle.checkpoints.proofs.file_parts.parts.FileParts.is_in_range.Goals as goal

pub returns : goal.returns
returns c =
    let lists : FileLists = view_of c.self.inside.files.items c.self.inside.open_files.items c.self.inside.streams.items in
    let same : c.are_in_range.result ≡ in_range lists = c.are_in_range.ensures ∙ (λ i. in_range (view_of (c.deref.ensures.value i) (c.deref-2.ensures.value i) (c.deref-3.ensures.value i))) in (
      λ yes. subst AreInRange c.self.view_is (in_range-says lists c.self.invariant (sym same ∙ yes)),
      λ range. same ∙ range-passes lists c.self.invariant (subst AreInRange (sym c.self.view_is) range),
    )
