use Rattle.std.proofs.Common.{ℕ, List, map, refl}
use Rattle.std.specs.Borrow.{Bor}
use Rattle.command_plan.proofs.Obtaining.{ends_before, ends_with, goes_on_with, on_words}
use Rattle.command_plan.proofs.Performing.{says}
use Rattle.audit_commands.specs.Pause.{part_files, whole_save}
use Rattle.audit_commands.proofs.Finishing.{begun}
use Rattle.audit_commands.proofs.Worded.{parts, over_piece}
use Rattle.audit_commands.proofs.part.perform.Goals as goal

pub returns-in_default : goal.returns-in_default
returns-in_default g c = on_words (over_piece part_files) (parts (map (λ (word : Bor (List ℕ)). word.now) c.args.words.now)) c.in_default.ensures (says _ _ _ c.usage.ensures)

pub returns-in_err-recipe : goal.returns-in_err-recipe
unfolding part_files
returns-in_err-recipe g c =
    on_words (over_piece part_files) (parts (map (λ (word : Bor (List ℕ)). word.now) c.args.words.now)) c.in-Some.ensures
    (ends_with c.from_residual.ensures.1 (ends_before c.in_err-recipe.ensures))

pub returns-in_err-inputs : goal.returns-in_err-inputs
unfolding part_files
returns-in_err-inputs g c =
    on_words (over_piece part_files) (parts (map (λ (word : Bor (List ℕ)). word.now) c.args.words.now)) c.in-Some.ensures
    (ends_with c.from_residual-in_err-inputs.ensures.1 (goes_on_with c.in_ok-recipe.ensures (ends_before c.in_err-inputs.ensures.obtained)))

pub returns : goal.returns
unfolding part_files
returns g c =
    on_words (over_piece part_files) (parts (map (λ (word : Bor (List ℕ)). word.now) c.args.words.now)) c.in-Some.ensures
    (goes_on_with c.in_ok-recipe.ensures
    (goes_on_with c.in_ok-inputs.ensures.obtained
    (begun _ _ _ _ _ _ _ _ _ c.new-audit.ensures (c.go_on.ensures (whole_save c.new-audit.result.recipe c.new-audit.result.inputs) (λ p. refl)))))

pub go_on-requires : goal.go_on-requires
go_on-requires g c = (whole_save c.new-audit.result.recipe c.new-audit.result.inputs, λ p. refl)
