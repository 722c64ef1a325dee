use Rattle.std.proofs.Common.{sym}
use Rattle.command_plan.proofs.Obtaining.{stops_with, wants_as}
use Rattle.stage_commands.proofs.Stepping.{named, unnamed}
use Rattle.stage_commands.proofs.earlier.stages_before.Goals as goal

pub returns-in_err-usage-in-None-clause-obtained : goal.returns-in_err-usage-in-None-clause-obtained
returns-in_err-usage-in-None-clause-obtained c = λ shelf. stops_with c.from_residual.ensures.1 (wants_as _ shelf _ c.in_err-usage-in-None.ensures.by_result)

pub returns-in-Some-clause-obtained : goal.returns-in-Some-clause-obtained
returns-in-Some-clause-obtained c = λ shelf. named _ shelf c.in-Some.count (sym c.in-Some.ensures.value)

pub returns-in_ok-usage-in-None-clause-obtained : goal.returns-in_ok-usage-in-None-clause-obtained
returns-in_ok-usage-in-None-clause-obtained c = λ shelf. unnamed _ shelf _ (sym c.in-None.ensures.value) c.in_ok-usage-in-None.ensures
