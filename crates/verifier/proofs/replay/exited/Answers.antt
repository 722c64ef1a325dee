use Rattle.std.proofs.Common.{sym, arith}
use Rattle.audit_rules.specs.Contents.{box_of, program_of}
use Rattle.verifier.specs.Inside.Holdings.{so_far}
use Rattle.verifier.proofs.Wanting.{no-program}
use Rattle.verifier.proofs.StageRules.{steps-are}
use Rattle.verifier.proofs.replay.exited.Goals as goal

pub run_out-requires-clause-few : goal.run_out-requires-clause-few
run_out-requires-clause-few c =
    let few = steps-are c.args.held.now.recipe.now c.args.reported.now.stage.now c.requires.held.recipe c.requires.known in
    omega (arith, few)

pub returns-in-Err-clause-value : goal.returns-in-Err-clause-value
returns-in-Err-clause-value c =
    let recipe = c.args.held.now.recipe.now in
    let before = so_far c.args.held.now in
    let stage = c.args.reported.now.stage.now in
    let none = rw c.bytes-program.ensures at (sym c.in-Err.ensures.value) in
    no-program (program_of recipe before stage) (box_of recipe before stage) stage.steps c.args.reported.now.line.now.steps none
