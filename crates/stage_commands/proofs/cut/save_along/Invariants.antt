use Rattle.std.proofs.Common.{◌-◌, ◌<◌, ◌≤◌}
use Rattle.ddc_base.specs.Limits.{most_states}
use Rattle.command_plan.proofs.Gathering.{GoesOnAs}
use Rattle.stage_commands.specs.Cut.{saved_from}
use Rattle.stage_commands.proofs.cut.save_along.Given as goal

-- so many states are saved, and the plan goes on from the present one, which is below the stage's limit
abbrev pub invariant-loop-saved : goal.invariant-loop-saved
invariant-loop-saved g l =
    GoesOnAs (saved_from l.stage l.spacing.every l.spacing.prefix most_states 0 l.fn.guest) (saved_from l.stage l.spacing.every l.spacing.prefix (most_states - l.saved) l.saved l.guest) (g.S.Shelf.state l.fn.shelf) (g.S.Shelf.state l.shelf)
    × (l.guest.steps < l.stage.steps)
    × (l.saved ≤ most_states)
