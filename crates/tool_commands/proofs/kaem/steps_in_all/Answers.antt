use Rattle.std.proofs.Common.{◌≤◌, ◌^◌, [], arith}
use Rattle.std.proofs.lemmas.List.Elements.{All-weaker}
use Rattle.std.proofs.lemmas.List.Sums.{sum_by-le, sum_by_more_le}
use Rattle.ddc_base.specs.Limits.{most_steps}
use Rattle.report.specs.Script.Reports.{IsCommandLine}
use Rattle.report.specs.declared.script.types.CommandLine.{CommandLine}
use Rattle.tool_commands.proofs.kaem.steps_in_all.Goals as goal

pub overflow_add-steps : goal.overflow_add-steps
overflow_add-steps c =
    let few = c.requires.few in
    let so_far = c.loop-command.invariant in
    let all = sum_by-le (λ (l : CommandLine). l.steps) most_steps c.args.commands.now
    (All-weaker IsCommandLine (λ l. l.steps ≤ most_steps) (λ l is. is.steps.1) c.args.commands.now c.requires.each) in
    let more = sum_by_more_le (λ (l : CommandLine). l.steps) c.args.commands.now c.loop-command.command-index
    (record { steps = 0; stream1 = record { length = 0; digest = record { 0 = [] } }; stream2 = record { length = 0; digest = record { 0 = [] } } }) c.loop-command-test.true in
    omega (arith, few, so_far, all, more)
