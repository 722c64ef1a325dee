use Rattle.std.proofs.Common.{◌∙◌, sym, ap, map}
use Rattle.std.specs.Option.{option_copied}
use Rattle.mem_files.specs.Lists.{listed}
use Rattle.checkpoints.specs.FileParts.Inside.Judged.{is_called, is_taken}
use Rattle.checkpoints.proofs.FilePartsLemmas.Tests.{any_map}
use Rattle.checkpoints.proofs.file_parts.judging.is_taken.Goals as goal

pub returns-in-Some : goal.returns-in-Some
returns-in-Some c =
    c.has_name.ensures ∙ sym (any_map (λ file. is_called c.in-Some.name.now file.name) listed c.args.files.now)
    ∙ ap (λ name. is_taken (option_copied name) (map listed c.args.files.now)) (sym c.in-Some.is)
