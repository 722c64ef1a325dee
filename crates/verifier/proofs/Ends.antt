-- Where a run ends by an exit with 0.
use Rattle.std.proofs.Common.{◌≡◌, ℕ, suc, ◌+◌, ◌==◌, Bool, true, false, if◌then◌else◌, Option, None, Some, Ok, Err, refl, sym, ap, ◌∙◌, arith}
use Rattle.std.proofs.lemmas.Bool.{eqb-true}
use Rattle.ddc_base.specs.Results.{or_error}
use Rattle.rv64_machine.specs.declared.answer.Cause.{Cause}
use Rattle.guest_run.specs.State.{GuestState}
use Rattle.guest_run.specs.Run.{End, Exited, Trapped, UnknownCall, end_at, end_of, first_end}
use Rattle.guest_run.proofs.Running.{after-counted, end_at-next}
use Rattle.guest_run.proofs.RunLaws.{first_end-found, one_end-law}
use Rattle.audit_rules.proofs.Slices.{end-step}
use Rattle.verifier.specs.Faults.{exit_of}
use Rattle.verifier.specs.declared.part.Part.TheVariants as part

-- an end within some steps is at its own step
at_its_step : (old new : GuestState) (most : ℕ) (end : End) → first_end old most ≡ Some (end, new) → old.steps ≡ 0 → end_at old (new.steps + 1) ≡ Some (end, new)
at_its_step old new most end is fresh =
    let at_step = end-step old most (end, new) is in
    let counted = after-counted old new at_step.0 at_step.2 in
    let same : new.steps + 1 ≡ suc at_step.0 = omega (arith, counted, fresh) in
    ap (end_at old) same ∙ end_at-next old new at_step.0 at_step.2 ∙ ap (end_of new) at_step.3

pub exits : (old new : GuestState) (number status : ℕ) → first_end old number ≡ Some (Exited status, new) → old.steps ≡ 0 → status ≡ 0 → new.steps + 1 ≡ number
    → or_error part.Run (exit_of (end_at old number)) ≡ Ok new.world
exits old new number status is fresh zero_is same =
    ap (λ o. or_error part.Run (exit_of o))
    (ap (end_at old) (sym same) ∙ at_its_step old new number (Exited status) is fresh ∙ ap (λ s. Some (Exited s, new)) zero_is)

-- an end that is none at this step, or no exit with 0
IsNoExit : Option (End × GuestState) → Type 0
IsNoExit end = (last : GuestState) → end ≡ Some (Exited 0, last) → ⊥

fails : (end : Option (End × GuestState)) → IsNoExit end → or_error part.Run (exit_of end) ≡ Err part.Run
unfolding IsNoExit
fails None none = refl
fails (Some (Trapped cause, last)) none = refl
fails (Some (UnknownCall number, last)) none = refl
fails (Some (Exited status, last)) none = by_test (status == 0) refl where
  by_test : (b : Bool) → (status == 0) ≡ b → or_error part.Run (if b then Some last.world else None) ≡ Err part.Run
  by_test false is = refl
  by_test true is = absurd (none last (ap (λ s. Some (Exited s, last)) (eqb-true status 0 is)))

pub other-step : (old new : GuestState) (number : ℕ) (end : End) → first_end old number ≡ Some (end, new) → old.steps ≡ 0 → (new.steps + 1 ≡ number → ⊥)
    → or_error part.Run (exit_of (end_at old number)) ≡ Err part.Run
unfolding IsNoExit
other-step old new number end is fresh other = fails (end_at old number)
    (λ last at. other (one_end-law old (new.steps + 1) number (end, new) (Exited 0, last) (at_its_step old new number end is fresh) at).0)

other-end : (old new : GuestState) (number : ℕ) (end : End) → first_end old number ≡ Some (end, new) → old.steps ≡ 0 → (end ≡ Exited 0 → ⊥)
    → or_error part.Run (exit_of (end_at old number)) ≡ Err part.Run
unfolding IsNoExit
other-end old new number end is fresh other = fails (end_at old number)
    (λ last at. other (ap (λ (e : End × GuestState). e.0) (one_end-law old (new.steps + 1) number (end, new) (Exited 0, last) (at_its_step old new number end is fresh) at).1))

pub no-end : (old : GuestState) (number : ℕ) → first_end old number ≡ None → or_error part.Run (exit_of (end_at old number)) ≡ Err part.Run
unfolding IsNoExit
no-end old number none = fails (end_at old number) (λ last at. none_some (sym none ∙ first_end-found old number number (Exited 0, last) (omega arith) at)) where
  none_some : {e : End × GuestState} → ◌≡◌ {A = Option (End × GuestState)} None (Some e) → ⊥
  none_some is = cc

abbrev status_of : End → ℕ
status_of (Exited s) = s
status_of (Trapped c) = 1
status_of (UnknownCall n) = 1

pub trapped : (old new : GuestState) (number : ℕ) (cause : Cause) → first_end old number ≡ Some (Trapped cause, new) → old.steps ≡ 0
    → or_error part.Run (exit_of (end_at old number)) ≡ Err part.Run
trapped old new number cause is fresh =
    other-end old new number (Trapped cause) is fresh (λ e. let no : status_of (Trapped cause) ≡ status_of (Exited 0) = ap status_of e in absurd cc)

pub unknown : (old new : GuestState) (number call : ℕ) → first_end old number ≡ Some (UnknownCall call, new) → old.steps ≡ 0
    → or_error part.Run (exit_of (end_at old number)) ≡ Err part.Run
unknown old new number call is fresh =
    other-end old new number (UnknownCall call) is fresh (λ e. let no : status_of (UnknownCall call) ≡ status_of (Exited 0) = ap status_of e in absurd cc)

pub exited : (old new : GuestState) (number status : ℕ) → first_end old number ≡ Some (Exited status, new) → old.steps ≡ 0 → (status ≡ 0 → ⊥)
    → or_error part.Run (exit_of (end_at old number)) ≡ Err part.Run
exited old new number status is fresh other = other-end old new number (Exited status) is fresh (λ e. other (ap status_of e))
