use Rattle.std.proofs.Common.{ℕ, List, map, refl}
use Rattle.std.specs.Borrow.{Bor}
use Rattle.audit_run.specs.Delta.Deltas.{delta_text_of}
use Rattle.command_plan.proofs.Obtaining.{ends_before, ends_with, goes_on_with, on_words}
use Rattle.command_plan.proofs.Performing.{says}
use Rattle.audit_commands.specs.Delta.{delta_resume_files, resumes_relative}
use Rattle.audit_commands.proofs.Relative.{resume_refused, resumes}
use Rattle.audit_commands.proofs.Worded.{delta_resumes, over_relative}
use Rattle.audit_commands.proofs.delta_resume.perform.Goals as goal

pub returns-in_default : goal.returns-in_default
returns-in_default g c = on_words (over_relative delta_resume_files) (delta_resumes (map (λ (word : Bor (List ℕ)). word.now) c.args.words.now)) c.in_default.ensures (says _ _ _ c.usage.ensures)

pub returns-in_err-recipe : goal.returns-in_err-recipe
unfolding delta_resume_files
returns-in_err-recipe g c =
    on_words (over_relative delta_resume_files) (delta_resumes (map (λ (word : Bor (List ℕ)). word.now) c.args.words.now)) c.in-Some.ensures
    (ends_with c.from_residual.ensures.1 (ends_before c.in_err-recipe.ensures))

pub returns-in_err-save : goal.returns-in_err-save
unfolding delta_resume_files
returns-in_err-save g c =
    on_words (over_relative delta_resume_files) (delta_resumes (map (λ (word : Bor (List ℕ)). word.now) c.args.words.now)) c.in-Some.ensures
    (ends_with c.from_residual-in_err-save.ensures.1 (goes_on_with c.in_ok-recipe.ensures (ends_before c.in_err-save.ensures.obtained)))

pub returns-in_err-delta : goal.returns-in_err-delta
unfolding delta_resume_files
returns-in_err-delta g c =
    let piece = c.in-Some.words.piece in
    on_words (over_relative delta_resume_files) (delta_resumes (map (λ (word : Bor (List ℕ)). word.now) c.args.words.now)) c.in-Some.ensures
    (ends_with c.from_residual-in_err-delta.ensures.1
    (goes_on_with c.in_ok-recipe.ensures
    (goes_on_with c.in_ok-save.ensures.obtained
    (ends_before {next = λ (found : List ℕ × List (List ℕ)). resumes_relative c.in_ok-recipe.recipe found.1 c.in_ok-save.save found.0 piece.save piece.report piece.steps} c.in_err-delta.ensures.obtained))))

pub go_on-requires : goal.go_on-requires
go_on-requires g c =
    let found = c.in-Ok.ensures.found in
    rw found.1 (delta_text_of c.in_ok-recipe.recipe c.in_ok-delta.inputs found.3.0, (found.3.0, found.3.1, λ p. refl))

pub returns-in-Ok : goal.returns-in-Ok
unfolding delta_resume_files
returns-in-Ok g c =
    let piece = c.in-Some.words.piece in
    on_words (over_relative delta_resume_files) (delta_resumes (map (λ (word : Bor (List ℕ)). word.now) c.args.words.now)) c.in-Some.ensures
    (goes_on_with c.in_ok-recipe.ensures
    (goes_on_with c.in_ok-save.ensures.obtained
    (goes_on_with {next = λ (found : List ℕ × List (List ℕ)). resumes_relative c.in_ok-recipe.recipe found.1 c.in_ok-save.save found.0 piece.save piece.report piece.steps} c.in_ok-delta.ensures.obtained
    (rw c.as_slice-base.ensures at (resumes c.in_ok-recipe.recipe c.in_ok-delta.inputs c.as_slice-base.result piece.save piece.report piece.steps c.in_ok-delta.delta c.in-Ok.audit _ _ _ c.in-Ok.ensures.kept c.in_ok-delta.ensures.given
    c.in-Ok.ensures.exact c.in-Ok.ensures.found c.go_on.ensures)))))

pub returns : goal.returns
unfolding delta_resume_files
returns g c =
    let piece = c.in-Some.words.piece in
    on_words (over_relative delta_resume_files) (delta_resumes (map (λ (word : Bor (List ℕ)). word.now) c.args.words.now)) c.in-Some.ensures
    (goes_on_with c.in_ok-recipe.ensures
    (goes_on_with c.in_ok-save.ensures.obtained
    (goes_on_with {next = λ (found : List ℕ × List (List ℕ)). resumes_relative c.in_ok-recipe.recipe found.1 c.in_ok-save.save found.0 piece.save piece.report piece.steps} c.in_ok-delta.ensures.obtained
    (rw c.as_slice-base.ensures at (resume_refused c.in_ok-recipe.recipe c.in_ok-delta.inputs c.as_slice-base.result piece.save piece.report piece.steps c.in_ok-delta.delta c.in-Err.refusal (g.S.Shelf.state c.fetch_save.new.shelf) c.refuse.result c.in-Err.ensures.exact c.refuse.ensures)))))
