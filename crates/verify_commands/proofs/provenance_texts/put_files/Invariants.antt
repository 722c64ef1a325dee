use Rattle.std.proofs.Common.{◌≡◌, ◌++◌, take}
use Rattle.std.specs.List.{flat_map}
use Rattle.verify_commands.specs.Provenance.{source_file_line}
use Rattle.verify_commands.proofs.provenance_texts.put_files.Given as goal

abbrev pub invariant-loop-file : goal.invariant-loop-file
invariant-loop-file l = l.text ≡ l.fn.text ++ flat_map (source_file_line l.recipe l.report l.source) (take l.file-index l.files)
