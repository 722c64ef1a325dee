-- An audit encoded by its parts. Rattle requires this where a contract sees it as a type of the definitions.
use Rattle.std.specs.Prelude.{◌≡◌, ℕ, List, Option, refl, ◌⊎◌}
use Rattle.std.proofs.Common.{inl, inr}
use Rattle.std.specs.Coded.{Coded, code_by, coded×, coded⊎, coded_ℕ, coded_list, coded_option}
use Rattle.guest_run.specs.State.{GuestState}
use Rattle.guest_run.specs.Inside.Codes.{guest_code}
use Rattle.recipe.specs.contracts.contents.RecipeContents as parsed
use Rattle.recipe.specs.declared.contents.RecipeContents.{RecipeContents}
use Rattle.audit_rules.specs.contracts.answer.AuditAnswer as answers
use Rattle.audit_rules.specs.contracts.answer.Finished as finished
use Rattle.audit_rules.specs.declared.answer.AuditAnswer.{AuditAnswer}
use Rattle.audit_rules.specs.declared.answer.Finished.{Finished}
use Rattle.audit_rules.specs.Positions.{Phase, On, Over, at}
use Rattle.audit_run.specs.Seen.{AuditState}

abbrev split : Phase → (List Finished × GuestState) ⊎ AuditAnswer
split (On p) = inl (p.done, p.at)
split (Over answer) = inr answer

abbrev join : (List Finished × GuestState) ⊎ AuditAnswer → Phase
join (inl parts) = On (at parts.0 parts.1)
join (inr answer) = Over answer

pub join-split : (s : Phase) → join (split s) ≡ s
join-split (On p) = refl
join-split (Over answer) = refl

abbrev pub phase_code : Coded Phase
phase_code =
    code_by ((List Finished × GuestState) ⊎ AuditAnswer) (coded⊎ (coded× (coded_list finished.the_row.coded) guest_code) answers.the_row.coded) split join join-split

abbrev pub audit_code : Coded AuditState
audit_code =
    code_by (RecipeContents × (List (List ℕ) × Option Phase)) (coded× parsed.the_row.coded (coded× (coded_list (coded_list coded_ℕ)) (coded_option phase_code)))
    (λ a. (a.recipe, (a.inputs, a.current))) (λ p. record { recipe = p.0; inputs = p.1.0; current = p.1.1 }) (λ _. refl)
