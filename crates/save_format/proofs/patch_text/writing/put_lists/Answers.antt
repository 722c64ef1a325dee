use Rattle.std.proofs.Common.{map}
use Rattle.save_format.specs.StateText.Seen.{file_view}
use Rattle.save_format.proofs.PatchTextLemmas.Listing.{files_rise}
use Rattle.save_format.proofs.StateTextLemmas.Written.{short_files}
use Rattle.save_format.proofs.patch_text.writing.put_lists.Goals as goal

pub put_pages-requires-clause-base : goal.put_pages-requires-clause-base
put_pages-requires-clause-base c = rw c.as_slice.ensures.value c.requires.base.pages.1

pub put_pages-requires-clause-pages : goal.put_pages-requires-clause-pages
put_pages-requires-clause-pages c = rw c.as_slice-2.ensures.value c.requires.parts.pages.turn

pub put_pages-requires-clause-few : goal.put_pages-requires-clause-few
put_pages-requires-clause-few c = rw (c.as_slice.ensures.value, c.as_slice-2.ensures.value) c.requires.parts.pages.few

pub put_files-requires-clause-base : goal.put_files-requires-clause-base
put_files-requires-clause-base c = rw c.as_slice-3.ensures.value (files_rise (map file_view c.args.base.now.files.items) c.requires.base.files.1)

pub put_files-requires-clause-files : goal.put_files-requires-clause-files
put_files-requires-clause-files c = rw c.as_slice-4.ensures.value (files_rise (map file_view c.args.parts.now.files.items) c.requires.parts.files.1)

pub put_files-requires-clause-short : goal.put_files-requires-clause-short
put_files-requires-clause-short c = rw c.as_slice-4.ensures.value (short_files c.args.parts.now.files.items c.requires.parts.files.1)
