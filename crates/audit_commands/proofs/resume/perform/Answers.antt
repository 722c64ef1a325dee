use Rattle.std.proofs.Common.{ℕ, List, map, refl}
use Rattle.std.specs.Borrow.{Bor}
use Rattle.audit_rules.specs.Positions.{forward_from}
use Rattle.audit_run.specs.Seen.{AuditState, phase}
use Rattle.command_plan.proofs.Obtaining.{ends_before, ends_with, goes_on_with, on_words}
use Rattle.command_plan.proofs.Performing.{says}
use Rattle.audit_commands.specs.Inside.Resuming.{resumes_whole}
use Rattle.audit_commands.specs.Pause.{came_to, resume_files, whole_save}
use Rattle.audit_commands.proofs.Worded.{resumes, over_piece}
use Rattle.audit_commands.proofs.resume.perform.Goals as goal

pub returns-in_default : goal.returns-in_default
returns-in_default g c = on_words (over_piece resume_files) (resumes (map (λ (word : Bor (List ℕ)). word.now) c.args.words.now)) c.in_default.ensures (says _ _ _ c.usage.ensures)

pub returns-in_err-recipe : goal.returns-in_err-recipe
unfolding resume_files
returns-in_err-recipe g c =
    on_words (over_piece resume_files) (resumes (map (λ (word : Bor (List ℕ)). word.now) c.args.words.now)) c.in-Some.ensures
    (ends_with c.from_residual.ensures.1 (ends_before c.in_err-recipe.ensures))

pub returns-in_err-text : goal.returns-in_err-text
unfolding resume_files
returns-in_err-text g c =
    let piece = c.in-Some.words.piece in
    on_words (over_piece resume_files) (resumes (map (λ (word : Bor (List ℕ)). word.now) c.args.words.now)) c.in-Some.ensures
    (ends_with c.from_residual-in_err-text.ensures.1
    (goes_on_with c.in_ok-recipe.ensures
    (ends_before {next = λ (found : List ℕ × List (List ℕ)). resumes_whole c.in_ok-recipe.recipe found.1 found.0 piece.save piece.report piece.steps} c.in_err-text.ensures.obtained)))

pub returns-in_err-audit : goal.returns-in_err-audit
unfolding resume_files
returns-in_err-audit g c =
    let piece = c.in-Some.words.piece in
    on_words (over_piece resume_files) (resumes (map (λ (word : Bor (List ℕ)). word.now) c.args.words.now)) c.in-Some.ensures
    (ends_with c.from_residual-in_err-audit.ensures.1
    (goes_on_with c.in_ok-recipe.ensures
    (goes_on_with {next = λ (found : List ℕ × List (List ℕ)). resumes_whole c.in_ok-recipe.recipe found.1 found.0 piece.save piece.report piece.steps} c.in_ok-text.ensures.obtained
    (ends_before {next = λ (a : AuditState). came_to a.recipe (whole_save a.recipe a.inputs) piece.save piece.report (forward_from a.recipe a.inputs (phase a) piece.steps)}
    (c.in_err-audit.ensures _)))))

pub returns : goal.returns
unfolding resume_files
returns g c =
    let piece = c.in-Some.words.piece in
    on_words (over_piece resume_files) (resumes (map (λ (word : Bor (List ℕ)). word.now) c.args.words.now)) c.in-Some.ensures
    (goes_on_with c.in_ok-recipe.ensures
    (goes_on_with {next = λ (found : List ℕ × List (List ℕ)). resumes_whole c.in_ok-recipe.recipe found.1 found.0 piece.save piece.report piece.steps} c.in_ok-text.ensures.obtained
    (goes_on_with {next = λ (a : AuditState). came_to a.recipe (whole_save a.recipe a.inputs) piece.save piece.report (forward_from a.recipe a.inputs (phase a) piece.steps)}
    (c.in_ok-audit.ensures _) (c.go_on.ensures (whole_save c.in_ok-audit.audit.recipe c.in_ok-audit.audit.inputs) (λ p. refl)))))

pub go_on-requires : goal.go_on-requires
go_on-requires g c = (whole_save c.in_ok-audit.audit.recipe c.in_ok-audit.audit.inputs, λ p. refl)
