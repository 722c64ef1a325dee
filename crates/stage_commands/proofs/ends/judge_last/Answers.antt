use Rattle.std.proofs.Common.{ap}
use Rattle.stage_commands.specs.Ends.{needs_last}
use Rattle.stage_commands.proofs.Judging.{says_same}
use Rattle.stage_commands.proofs.Reading.{no_end, no_state}
use Rattle.stage_commands.proofs.ends.judge_last.Goals as goal

pub returns-in-NotState : goal.returns-in-NotState
returns-in-NotState c = says_same (ap (needs_last c.args.stage.now) (no_state c.args.last.now c.args.stage.now.steps c.in-NotState.why c.in-NotState.ensures)) c.refuted_last.ensures

pub returns-in-Over : goal.returns-in-Over
returns-in-Over c = says_same (ap (needs_last c.args.stage.now) (no_end c.args.last.now c.args.stage.now.steps c.in-Over.ensures)) c.run_failed.ensures
