use Rattle.std.proofs.Common.{◌≡◌, ◌≤◌, length}
use Rattle.std.specs.List.{slice_split}
use Rattle.command_plan.specs.Lists.{is_line_feed, list_of, listed_after}
use Rattle.command_plan.proofs.lists.read_lines.Given as goal

-- what is left of the lines, after the items so far, lists what the whole text does
abbrev pub invariant-loop-line : goal.invariant-loop-line
invariant-loop-line g l =
    (listed_after g.T.Listed.form l.most l.items (slice_split is_line_feed l.rest) ≡ list_of g.T.Listed.form l.most l.text)
    × (length l.items ≤ l.most)

abbrev pub decreases-loop-line : goal.decreases-loop-line
decreases-loop-line g l = length l.rest
