use Rattle.std.proofs.Common.{◌≡◌, ◌++◌, length, map, option_copied}
use Rattle.std.specs.FinMap as finite
use Rattle.kaem_script.proofs.Renewing.{line_at, names_after}
use Rattle.kaem_script.proofs.marks.left_lines.Given as goal

abbrev pub invariant-loop-name : goal.invariant-loop-name
invariant-loop-name l =
    l.lines ++ map (line_at l.files) (names_after l.files (option_copied l.last)) ≡ map (line_at l.files) (finite.keys l.files.names)

abbrev pub decreases-loop-name : goal.decreases-loop-name
decreases-loop-name l = length (names_after l.files (option_copied l.last))
