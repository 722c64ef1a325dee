use Rattle.std.proofs.Common.{ℕ, List, map, ap, ◌∙◌, subst}
use Rattle.std.specs.Borrow.{Bor}
use Rattle.audit_rules.specs.Bench.{bench}
use Rattle.audit_rules.specs.declared.answer.AuditAnswer.{AuditAnswer}
use Rattle.command_plan.specs.Performs.{Performs}
use Rattle.command_plan.proofs.Obtaining.{ends_before, ends_with, goes_on_with, on_words}
use Rattle.command_plan.proofs.Performing.{says, wants_memory}
use Rattle.audit_commands.specs.Audit.{audit_files, audited}
use Rattle.recipe_plan.proofs.Worded.{over_report}
use Rattle.audit_commands.proofs.Worded.{audits}
use Rattle.audit_commands.proofs.audit.perform.Goals as goal

pub returns-in_default : goal.returns-in_default
returns-in_default g c = on_words (over_report audit_files) (audits (map (λ (word : Bor (List ℕ)). word.now) c.args.words.now)) c.in_default.ensures (says _ _ _ c.usage.ensures)

pub returns-in_err-recipe : goal.returns-in_err-recipe
unfolding audit_files
returns-in_err-recipe g c =
    on_words (over_report audit_files) (audits (map (λ (word : Bor (List ℕ)). word.now) c.args.words.now)) c.in-Some.ensures
    (ends_with c.from_residual.ensures.1 (ends_before c.in_err-recipe.ensures))

pub returns-in_err-apart : goal.returns-in_err-apart
unfolding audit_files
returns-in_err-apart g c =
    on_words (over_report audit_files) (audits (map (λ (word : Bor (List ℕ)). word.now) c.args.words.now)) c.in-Some.ensures
    (ends_with c.from_residual-in_err-apart.ensures.1 (goes_on_with c.in_ok-recipe.ensures (ends_before (c.in_err-apart.ensures _))))

pub returns-in_err-inputs : goal.returns-in_err-inputs
unfolding audit_files
returns-in_err-inputs g c =
    on_words (over_report audit_files) (audits (map (λ (word : Bor (List ℕ)). word.now) c.args.words.now)) c.in-Some.ensures
    (ends_with c.from_residual-in_err-inputs.ensures.1
    (goes_on_with c.in_ok-recipe.ensures (goes_on_with (c.in_ok-apart.ensures _) (ends_before c.in_err-inputs.ensures.obtained))))

pub returns-in_err-answer : goal.returns-in_err-answer
unfolding audit_files
returns-in_err-answer g c =
    on_words (over_report audit_files) (audits (map (λ (word : Bor (List ℕ)). word.now) c.args.words.now)) c.in-Some.ensures
    (ends_with c.from_residual-in_err-answer.ensures.1
    (goes_on_with c.in_ok-recipe.ensures (goes_on_with (c.in_ok-apart.ensures _) (goes_on_with c.in_ok-inputs.ensures.obtained (wants_memory _ _)))))

-- inputs that are borrowed are the inputs
pub returns : goal.returns
unfolding audit_files
returns g c =
    on_words (over_report audit_files) (audits (map (λ (word : Bor (List ℕ)). word.now) c.args.words.now)) c.in-Some.ensures
    (goes_on_with c.in_ok-recipe.ensures (goes_on_with (c.in_ok-apart.ensures _) (goes_on_with c.in_ok-inputs.ensures.obtained
    (subst (λ (answer : AuditAnswer). Performs (audited c.in_ok-recipe.recipe c.in-Some.words.report answer) (g.S.Shelf.state c.fetch_inputs.new.shelf) (g.S.Shelf.state c.tell.new.shelf) c.tell.result)
    (c.in_ok-answer.ensures.answer ∙ ap (bench c.in_ok-recipe.recipe) c.as_slice.ensures) c.tell.ensures))))
