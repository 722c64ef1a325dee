use Rattle.std.proofs.Common.{map}
use Rattle.save_format.specs.StateText.Seen.{file_view}
use Rattle.save_format.proofs.PatchTextLemmas.Listing.{files_rise}
use Rattle.save_format.proofs.patch_text.reading.patch_of.Goals as goal

pub pages_apart-requires : goal.pages_apart-requires
pages_apart-requires c = rw c.as_slice.ensures.value c.requires.pages.1

pub files_relative-requires : goal.files_relative-requires
files_relative-requires c = rw c.as_slice-2.ensures.value (files_rise (map file_view c.args.base.now.files.items) c.requires.files.1)
