use Rattle.guest_run.specs.Start.{start_of}
use Rattle.audit_rules.specs.Contents.{box_of, program_of}
use Rattle.verifier.specs.declared.part.Part.TheVariants as part
use Rattle.verifier.specs.Faults.{left_at}
use Rattle.verifier.specs.Inside.Holdings.{so_far}
use Rattle.verifier.proofs.DoneStages.{there-is}
use Rattle.verifier.proofs.Wanting.{wants-check}
use Rattle.verifier.proofs.replay.replay.Goals as goal

pub returns-clause-memory : goal.returns-clause-memory
returns-clause-memory c =
    let recipe = c.args.held.now.recipe.now in
    let stage = c.args.reported.now.stage.now in
    let ran = there-is part.Run (left_at (start_of (program_of recipe (so_far c.args.held.now) stage) (box_of recipe (so_far c.args.held.now) stage)) stage.steps c.args.reported.now.line.now.steps) _
    c.in_ok-guest.ensures.value in
    wants-check recipe (so_far c.args.held.now) stage c.args.reported.now.line.now c.left.result _ ran (rw c.files.ensures at c.left.ensures.memory)
