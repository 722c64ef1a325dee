use Rattle.std.proofs.Common.{◌≡◌, ◌≤◌, ◌+◌, length, All}
use Rattle.kaem_script.specs.Faults.{commands_fault, left_fault}
use Rattle.kaem_script.specs.Inside.Commands.{world_in}
use Rattle.kaem_script.specs.Kept.{IsCommand}
use Rattle.kaem_script.proofs.Relative.{WantsOfWhole}
use Rattle.kaem_script.proofs.verifying.judge_commands.Given as goal

abbrev pub invariant-loop-ahead : goal.invariant-loop-ahead
invariant-loop-ahead l = record {
  each : All IsCommand l.ahead;
  few : l.number + length l.ahead ≤ 4097;
  same : commands_fault (left_fault l.report.left) l.number (world_in l.present) l.ahead l.lines
      ≡ commands_fault (left_fault l.report.left) 1 l.files l.commands l.report.commands;
  further : WantsOfWhole l.files l.commands l.report.commands (world_in l.present) l.ahead l.lines l.number;
}

abbrev pub decreases-loop-ahead : goal.decreases-loop-ahead
decreases-loop-ahead l = length l.ahead
