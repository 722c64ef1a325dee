use Rattle.save_format.proofs.StateTextLemmas.Written.{short_files}
use Rattle.save_format.proofs.state_text.writing.put_lists.Goals as goal

pub put_files-requires-clause-short : goal.put_files-requires-clause-short
put_files-requires-clause-short c = rw c.as_slice.ensures.value (short_files c.args.parts.now.files.items c.requires.files.1)
