use Rattle.std.proofs.Common.{◌≡◌, drop}
use Rattle.std.specs.List.{fold}
use Rattle.verifier.specs.Inside.Holdings.{CanPlace, so_far}
use Rattle.audit_rules.specs.Contents.{with_stage_file}
use Rattle.verifier.proofs.context.place_files.Given as goal

abbrev pub invariant-loop-file : goal.invariant-loop-file
invariant-loop-file l =
    CanPlace l.context.files (drop l.file-index l.files)
    × (fold (with_stage_file l.held.recipe.now (so_far l.held)) l.context.files (drop l.file-index l.files)
    ≡ fold (with_stage_file l.held.recipe.now (so_far l.held)) l.fn.context.files l.files)
    × (l.context ≡ record { args = l.fn.context.args; env = l.fn.context.env; files = l.context.files; heap = l.fn.context.heap })
