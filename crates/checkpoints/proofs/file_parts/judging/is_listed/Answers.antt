use Rattle.std.proofs.Common.{◌∙◌, sym, ap, map, eqb}
use Rattle.mem_files.specs.Lists.{listed, is_listed}
use Rattle.checkpoints.proofs.FilePartsLemmas.Tests.{any_map}
use Rattle.checkpoints.proofs.file_parts.judging.is_listed.Goals as goal

pub returns-in-File : goal.returns-in-File
returns-in-File c =
    c.is_number_listed.ensures ∙ sym (any_map (λ file. eqb file.number c.in-File.number) listed c.args.files.now)
    ∙ ap (is_listed (map listed c.args.files.now)) (sym c.in-File.is)
