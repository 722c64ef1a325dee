use Rattle.std.proofs.Common.{sym}
use Rattle.audit_run.proofs.StageLemmas.Placing.{check-based}
use Rattle.audit_run.proofs.stage.sources.check_of.Goals as goal

pub check_text-requires : goal.check_text-requires
check_text-requires c = check-based c.args.so_far.now.recipe.now c.args.stage.now c.in-Some.source.now c.requires (sym c.in-Some.ensures)
