use Rattle.std.proofs.Common.{drop}
use Rattle.command_plan.specs.Steps.{LeadsOn}
use Rattle.tool_commands.specs.Scripts.{needs_files}
use Rattle.tool_commands.proofs.PlacedFiles.{HasBudget, files_left}
use Rattle.tool_commands.proofs.scripts.fetch_each.Given as goal

-- the plan goes on after the files so far, and there is room for the others
abbrev pub invariant-loop-word : goal.invariant-loop-word
invariant-loop-word g l =
    LeadsOn (needs_files l.words) (files_left l.budget l.files (drop l.word-index l.words)) (g.S.Shelf.state l.fn.shelf) (g.S.Shelf.state l.shelf)
    × HasBudget l.files l.budget (drop l.word-index l.words)
