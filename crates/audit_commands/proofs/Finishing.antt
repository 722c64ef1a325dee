-- Where an audit came to that went on.
use Rattle.std.proofs.Common.{◌≡◌, ℕ, List, Option, None, Some, Result, ap, sym, subst, ◌∙◌}
use Rattle.std.proofs.lemmas.Option.{same_Some}
use Rattle.recipe.specs.declared.contents.RecipeContents.{RecipeContents}
use Rattle.audit_rules.specs.declared.answer.AuditAnswer.{AuditAnswer as Outcome}
use Rattle.audit_rules.specs.Positions.{Position, Phase, On, Over, forward_from, position}
use Rattle.audit_run.specs.Saved.{IsOn}
use Rattle.audit_run.specs.Seen as seen
use Rattle.audit_run.specs.Seen.{AuditState, finished_answer}
use Rattle.ddc_base.specs.Outside.{ShelfState}
use Rattle.command_plan.specs.declared.answer.Answer.{Answer}
use Rattle.command_plan.specs.declared.stop.Stop.{Stop}
use Rattle.command_plan.specs.Performs.{Performs}
use Rattle.audit_commands.specs.Audit.{audited}
use Rattle.audit_commands.specs.Pause.{came_to, paused, whole_save}

module _ (now : Option Phase) where
  -- an audit that has no answer stands at a position
  pub is_on : (current : Phase) → now ≡ Some current → None ≡ finished_answer now → IsOn now
  is_on (On p) is none = subst IsOn (sym is) tt
  is_on (Over answer) is none =
      let no : None ≡ Some answer = none ∙ ap finished_answer is in
      absurd cc

  module _ (recipe : RecipeContents) (text : Position → List ℕ) (name report : List ℕ) (old new : ShelfState) (result : Result Answer Stop) where
    pub pauses : (current : Phase) → now ≡ Some current → None ≡ finished_answer now → ((p : Position) → now ≡ Some (On p) → Performs (paused recipe text name p) old new result)
        → Performs (came_to recipe text name report current) old new result
    pauses (On p) is none performs = performs p is
    pauses (Over answer) is none performs =
        let no : None ≡ Some answer = none ∙ ap finished_answer is in
        absurd cc

    -- one that has an answer is over with it
    pub ends : (current : Phase) (answer : Outcome) → now ≡ Some current → Some answer ≡ finished_answer now → Performs (audited recipe report answer) old new result
        → Performs (came_to recipe text name report current) old new result
    ends (On p) answer is some performs =
        let no : Some answer ≡ None = some ∙ ap finished_answer is in
        absurd cc
    ends (Over other) answer is some performs =
        let both : Some answer ≡ Some other = some ∙ ap finished_answer is in
        subst (λ a. Performs (audited recipe report a) old new result) (same_Some answer other both) performs

-- where an audit that begins comes to
pub begun : (recipe : RecipeContents) (inputs : List (List ℕ)) (audit : AuditState) (save report : List ℕ) (steps : ℕ) (old new : ShelfState) (result : Result Answer Stop)
    → audit ≡ record { recipe = recipe; inputs = inputs; current = None }
    → Performs (came_to audit.recipe (whole_save audit.recipe audit.inputs) save report (forward_from audit.recipe audit.inputs (seen.phase audit) steps)) old new result
    → Performs (came_to recipe (whole_save recipe inputs) save report (position recipe inputs steps)) old new result
begun recipe inputs audit save report steps old new result is p =
    subst (λ (a : AuditState). Performs (came_to a.recipe (whole_save a.recipe a.inputs) save report (forward_from a.recipe a.inputs (seen.phase a) steps)) old new result) is p
