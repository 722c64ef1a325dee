use Rattle.std.proofs.Common.{List, subst, ◌++◌}
use Rattle.report.specs.declared.types.CompareLine.{CompareLine}
use Rattle.command_plan.specs.declared.status.Status.TheVariants.{Differs}
use Rattle.command_plan.specs.Plan.{answers}
use Rattle.command_plan.specs.Steps.{Says}
use Rattle.command_plan.proofs.Obtaining.{wants_at_once}
use Rattle.recipe_plan.specs.Texts.{compared_lines}
use Rattle.verify_commands.proofs.Chaining.{differs_ends, refuted_ends, yes_leads}
use Rattle.verify_commands.proofs.chain.judge.Goals as goal

pub returns-in-Yes : goal.returns-in-Yes
returns-in-Yes c = λ shelf. yes_leads c.args.prefix.now c.args.report.now.compare _ c.in-Yes.ensures.value shelf

pub returns-in-TrueButDiffers : goal.returns-in-TrueButDiffers
returns-in-TrueButDiffers c =
    λ shelf.
    differs_ends c.args.prefix.now c.args.report.now.compare _ c.in-TrueButDiffers.ensures.value shelf c.differs.result c.answered.result
    (subst (λ (lines : List CompareLine). Says (answers Differs (c.args.prefix.now ++ compared_lines lines)) c.differs.result) c.as_slice.ensures c.differs.ensures) c.answered.ensures

pub returns-in-Refuted : goal.returns-in-Refuted
returns-in-Refuted c =
    λ shelf.
    refuted_ends c.args.prefix.now c.args.report.now.compare _ c.in-Refuted.part c.in-Refuted.place c.in-Refuted.ensures.value shelf c.refuted.result c.answered-in-Refuted.result
    c.refuted.ensures c.answered-in-Refuted.ensures

pub returns-in-OutOfMemory : goal.returns-in-OutOfMemory
returns-in-OutOfMemory c = λ shelf. wants_at_once _ shelf
