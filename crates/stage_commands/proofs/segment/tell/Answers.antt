use Rattle.std.proofs.Common.{Ok, Err, ap, sym, ◌∙◌}
use Rattle.command_plan.specs.declared.status.Status.TheVariants.{Yes}
use Rattle.command_plan.specs.Plan.{answers}
use Rattle.stage_commands.specs.Segment.{piece_reported}
use Rattle.stage_commands.proofs.Judging.{says_same}
use Rattle.stage_commands.proofs.Reading.{is_reported}
use Rattle.stage_commands.proofs.segment.tell.Goals as goal

pub returns-in_ok-segment-in-Yes : goal.returns-in_ok-segment-in-Yes
returns-in_ok-segment-in-Yes c = record {
  by_result = ap piece_reported (is_reported c.args.from.now c.args.to.now (Ok c.in-Yes.steps) c.in-Yes.ensures) ∙ ap (answers Yes) (sym c.in_ok-segment-in-Yes.ensures);
}

pub returns-in-No : goal.returns-in-No
returns-in-No c = says_same (ap piece_reported (is_reported c.args.from.now c.args.to.now (Err c.in-No.why) c.in-No.ensures)) c.refuted.ensures
