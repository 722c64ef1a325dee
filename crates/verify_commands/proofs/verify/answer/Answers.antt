use Rattle.verify_commands.specs.Verify.{explained}
use Rattle.verify_commands.proofs.Judging.{fault, no_fault_equal, no_fault_differs}
use Rattle.verify_commands.proofs.verify.answer.Goals as goal

pub returns-in-Yes : goal.returns-in-Yes
returns-in-Yes g c =
    no_fault_equal (explained c.args.explanation c.args.recipe.now c.args.inputs.now c.args.report.now) c.args.report.now.compare _ _ c.in-Yes.ensures.value c.accepted.ensures

pub returns-in-TrueButDiffers : goal.returns-in-TrueButDiffers
returns-in-TrueButDiffers g c =
    no_fault_differs (explained c.args.explanation c.args.recipe.now c.args.inputs.now c.args.report.now) c.args.report.now.compare _ _ c.in-TrueButDiffers.ensures.value
    c.accepted-in-TrueButDiffers.ensures

pub returns-in-Refuted : goal.returns-in-Refuted
returns-in-Refuted g c =
    fault (explained c.args.explanation c.args.recipe.now c.args.inputs.now c.args.report.now) c.args.report.now.compare _ _ _ _ c.in-Refuted.ensures.value c.refuted.ensures
