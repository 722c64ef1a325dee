use Rattle.std.proofs.Common.{ap, ◌∙◌}
use Rattle.std.proofs.lemmas.Result.{err_from_is_err_and}
use Rattle.recipe.specs.declared.contents.RecipeContents.{RecipeContents}
use Rattle.command_plan.proofs.Performing.{wants_memory}
use Rattle.recipe_plan.specs.NotDone.{stage_name}
use Rattle.audit_commands.specs.PauseTexts.{paused_line}
use Rattle.audit_commands.proofs.Coming.{sets_kept}
use Rattle.audit_commands.proofs.going.keep_position.Goals as goal

pub returns-in_err-text : goal.returns-in_err-text
returns-in_err-text g c = λ p text on keeps.
    let e = err_from_is_err_and c.from_residual.result c.from_residual.ensures.1 in
    rw (e.1, e.2) (wants_memory _ _)

pub returns-in_err-line : goal.returns-in_err-line
returns-in_err-line g c = λ p text on keeps.
    let e = err_from_is_err_and c.from_residual-in_err-line.result c.from_residual-in_err-line.ensures.1 in
    rw (e.1, e.2) (wants_memory _ _)

pub returns : goal.returns
returns g c = λ p text on keeps.
    let place = c.place-stage.result in
    let name = c.stage_name.ensures ∙ ap (λ (recipe : RecipeContents). stage_name recipe.stages place.0) c.recipe.ensures in
    sets_kept c.args.audit.now.recipe text c.args.name.now c.args.audit.now.current _ _ _ c.in_ok-text.text c.in_ok-line.line place p on
    (c.in_ok-text.ensures p text on keeps) c.place-stage.ensures (c.in_ok-line.ensures ∙ ap (λ stage. paused_line stage place.1) name)
    (rw c.as_slice.ensures at c.keep.ensures)
