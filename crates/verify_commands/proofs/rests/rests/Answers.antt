use Rattle.recipe.specs.declared.parts.Stage.{Stage}
use Rattle.std.proofs.Common.{refl}
use Rattle.command_plan.proofs.Obtaining.{ends_before, ends_with, goes_on_with, on_words}
use Rattle.command_plan.proofs.Performing.{says}
use Rattle.command_plan.specs.declared.status.Status.TheVariants.{Yes}
use Rattle.command_plan.specs.Plan.{answers}
use Rattle.verify_commands.specs.Rests.{rested, rests_files, rests_text}
use Rattle.verify_commands.proofs.rests.rests.Goals as goal

pub returns-in_err-recipe : goal.returns-in_err-recipe
unfolding rests_files
returns-in_err-recipe g c = ends_with c.from_residual.ensures.1 (ends_before c.in_err-recipe.ensures)

pub returns-in-Some : goal.returns-in-Some
unfolding rests_files rested
returns-in-Some g c =
    goes_on_with c.in_ok-recipe.ensures (on_words (λ (stage : Stage). answers Yes (rests_text c.in_ok-recipe.recipe stage.name)) refl c.in-Some.ensures (says _ _ _ c.answer.ensures))

pub returns : goal.returns
unfolding rests_files rested
returns g c =
    goes_on_with c.in_ok-recipe.ensures (on_words (λ (stage : Stage). answers Yes (rests_text c.in_ok-recipe.recipe stage.name)) refl c.in-None.ensures (says _ _ _ c.usage.ensures))
