use Rattle.std.proofs.Common.{◌+◌, ◌≤◌, [], length, arith}
use Rattle.audit_commands.proofs.Numbered.{numbered}
use Rattle.audit_commands.proofs.laws.failed_stages_are_of_the_recipe.Goals as goal

pub returns-clause-first : goal.returns-clause-first
returns-clause-first c = λ recipe inputs number fault is. (numbered recipe inputs [] recipe.stages number fault is).first

pub returns-clause-last : goal.returns-clause-last
returns-clause-last c = λ recipe inputs number fault is.
    let last : number ≤ 0 + length recipe.stages = (numbered recipe inputs [] recipe.stages number fault is).last in
    omega arith
