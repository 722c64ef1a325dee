use Rattle.std.proofs.Common.{List, arith, ap, length, sym, subst}
use Rattle.report.specs.declared.script.types.CommandLine.{CommandLine}
use Rattle.kaem_script.specs.Faults.{commands_fault, left_fault}
use Rattle.kaem_script.specs.Inside.Commands.{world_in}
use Rattle.kaem_script.proofs.Relative.{WantsOfWhole, first-at, first-is, others-are, replay-goes-on, wants-begin, wants-here, wants-on}
use Rattle.kaem_script.proofs.verifying.judge_commands.Goals as goal

pub loop-ahead-init : goal.loop-ahead-init
loop-ahead-init c = record {
  each = c.requires.each;
  few = omega (arith, c.requires.few);
  same = ap (λ (lines : List CommandLine). commands_fault (left_fault c.args.report.now.left) 1 c.args.files.now c.args.commands.now lines) c.as_slice-lines.ensures;
  further = subst (λ (lines : List CommandLine). WantsOfWhole c.args.files.now c.args.commands.now c.args.report.now.commands c.args.files.now c.args.commands.now lines 1)
      (sym c.as_slice-lines.ensures) (wants-begin c.args.files.now c.args.commands.now c.args.report.now.commands);
}

pub loop-ahead-preserved : goal.loop-ahead-preserved
loop-ahead-preserved c =
    let ahead_is = first-is c.loop-ahead.ahead.now c.words-item.result c.in-len1-up.len_at_least c.words-item.is in
    let lines_are = first-at c.loop-ahead.lines.now _ c.in-len1-up-lines.len_at_least in
    record {
      each = others-are c.loop-ahead.ahead.now _ c.words-item.result ahead_is c.loop-ahead.invariant.each;
      few = omega (arith, c.loop-ahead.invariant.few, ap length ahead_is);
      same = replay-goes-on (left_fault c.args.report.now.left) c.loop-ahead.number (world_in c.loop-ahead.present) c.in-Ok.left c.loop-ahead.ahead.now _ c.words-item.result
          c.loop-ahead.lines.now _ _ _ ahead_is lines_are c.in-Ok.ensures.value c.loop-ahead.invariant.same;
      further = wants-on c.args.files.now c.args.commands.now c.args.report.now.commands c.loop-ahead.number (world_in c.loop-ahead.present) c.loop-ahead.ahead.now _
          c.words-item.result c.loop-ahead.lines.now _ _ ahead_is lines_are c.loop-ahead.invariant.further c.in-Ok.left c.in-Ok.ensures.value;
    }

pub returns-in-Err-OutOfMemory-clause-memory : goal.returns-in-Err-OutOfMemory-clause-memory
returns-in-Err-OutOfMemory-clause-memory c =
    let ahead_is = first-is c.loop-ahead.ahead.now c.words-item.result c.in-len1-up.len_at_least c.words-item.is in
    let lines_are = first-at c.loop-ahead.lines.now _ c.in-len1-up-lines.len_at_least in
    wants-here c.args.files.now c.args.commands.now c.args.report.now.commands c.loop-ahead.number (world_in c.loop-ahead.present) c.loop-ahead.ahead.now _
    c.words-item.result c.loop-ahead.lines.now _ _ ahead_is lines_are c.loop-ahead.invariant.further (rw c.in-Err-OutOfMemory.field-0-is at c.in-Err-OutOfMemory.ensures.memory)
