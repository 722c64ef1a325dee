use Rattle.std.proofs.Common.{◌≡◌, ◌++◌, length, filter, map, option_copied}
use Rattle.std.specs.FinMap as finite
use Rattle.mem_files.specs.Calls.{is_after}
use Rattle.audit_run.proofs.StageLemmas.Walking.{line_at}
use Rattle.audit_run.proofs.stage.left.left_lines.Given as goal

abbrev pub invariant-loop-name : goal.invariant-loop-name
invariant-loop-name l =
    l.lines ++ map (line_at l.files) (filter (is_after (option_copied l.last)) (finite.keys l.files.names))
    ≡ map (line_at l.files) (finite.keys l.files.names)

abbrev pub decreases-loop-name : goal.decreases-loop-name
decreases-loop-name l = length (filter (is_after (option_copied l.last)) (finite.keys l.files.names))
