use Rattle.std.proofs.Common.{subst}
use Rattle.segments.specs.Segments.{StartChecks}
use Rattle.stage_commands.proofs.Judging.{says_no_state, says_same, starts_elsewhere, starts_not, starts_there}
use Rattle.stage_commands.proofs.ends.judge_first.Goals as goal

pub returns-in-Yes : goal.returns-in-Yes
returns-in-Yes c program setting first checks =
    says_same (starts_there c.args.stage.now program setting first _ (subst (StartChecks program setting first) c.in-Yes.is checks)) c.judge_last.ensures

pub returns-in-Start : goal.returns-in-Start
returns-in-Start c program setting first checks =
    says_same (starts_not c.args.stage.now program setting first _ c.in-Start.why c.cause_of.result (subst (StartChecks program setting first) c.in-Start.is checks) c.cause_of.ensures) c.run_failed.ensures

pub returns-in-NotState : goal.returns-in-NotState
returns-in-NotState c program setting first checks =
    says_same (says_no_state c.args.stage.now program setting first _ c.in-NotState.why (subst (StartChecks program setting first) c.in-NotState.is checks)) c.refuted_first.ensures

pub returns-in-Differs : goal.returns-in-Differs
returns-in-Differs c program setting first checks =
    says_same (starts_elsewhere c.args.stage.now program setting first _ c.in-Differs.offset (subst (StartChecks program setting first) c.in-Differs.is checks)) c.other_first.ensures
