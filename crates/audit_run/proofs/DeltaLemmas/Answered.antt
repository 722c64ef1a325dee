-- Each base and each text have one answer, since what the rules ask of them is decided by tests.
use Rattle.std.proofs.Common.{◌≡◌, ◌≢◌, ℕ, Bool, List, Result, Ok, Err, refl, sym, ap, ◌∙◌}
use Rattle.checkpoints.proofs.Decisions.{by_case, chosen, is_test, passed}
use Rattle.recipe.specs.declared.contents.RecipeContents.{RecipeContents}
use Rattle.save_format.specs.DeltaText.DeltaText.{DeltaText, parsed_delta}
use Rattle.save_format.specs.DeltaText.Header.{is_of_other_base}
use Rattle.audit_rules.specs.Positions.{Position}
use Rattle.audit_run.specs.Save.Inside.Tests as test
use Rattle.audit_run.specs.Save.Judged.{judged}
use Rattle.audit_run.specs.Save.Saves.{Resumes, save_of}
use Rattle.audit_run.specs.Delta.Deltas.{DeltaAnswer, GoesOnRelative, NamesAnotherBase, ResumesRelative, base_digest, save_relative}
use Rattle.audit_run.specs.Delta.Judged.{after_base, judged_relative, judged_from, position_relative}
use Rattle.audit_run.specs.declared.delta.reading.DeltaRefusal.{DeltaRefusal}
use Rattle.audit_run.specs.declared.delta.reading.DeltaRefusal.TheVariants.{Base, Form, OtherBase, State, OutOfMemory}
use Rattle.audit_run.specs.declared.save.reading.SaveRefusal.{SaveRefusal}
use Rattle.audit_run.specs.declared.save.reading.SaveRefusal.TheVariants as save
use Rattle.audit_run.proofs.SaveLemmas.Answered as saves

module _ (recipe : RecipeContents) (inputs : List (List ℕ)) (base text : List ℕ) where
  abbrev IsAnswer : Result Position DeltaRefusal → Type 0
  IsAnswer result = ResumesRelative recipe inputs base text result × (result ≢ Err OutOfMemory)

  -- does it name another base than this position's?
  abbrev named : Position → Bool
  named b = is_of_other_base (base_digest (save_of recipe inputs b)) text

  says : (b : Position) → Resumes recipe inputs base (Ok b) → ¬ (NamesAnotherBase (save_of recipe inputs b) text) → (parsed : Result DeltaText ℕ)
      → parsed_delta (save_of recipe inputs b) text ≡ parsed → IsAnswer (position_relative recipe (save_of recipe inputs b) parsed)
  says b r own (Err offset) is = ((b, r, (own, is)), λ e. cc)
  says b r own (Ok delta) is =
      let parsed = save_relative (save_of recipe inputs b) delta in
      by_case IsAnswer (test.is_saved_position recipe parsed) (saves.is_saved_position recipe parsed) _ _ (λ position. ((b, r, (own, delta, is, position, refl)), λ e. cc)) (λ not. ((b, r, (own, delta, is, not)), λ e. cc))

  judges : (parsed : Result Position SaveRefusal) → Resumes recipe inputs base parsed → parsed ≢ Err save.OutOfMemory → IsAnswer (after_base recipe inputs text parsed)
  judges (Err refusal) r settled = ((r, λ same. settled (ap Err same)), λ e. cc)
  judges (Ok b) r settled =
      by_case IsAnswer (named b) (is_test (named b)) _ _ (λ other. ((b, r, other), λ e. cc)) (λ own. says b r own (parsed_delta (save_of recipe inputs b) text) refl)

  pub is_resumed : ResumesRelative recipe inputs base text (judged_relative recipe inputs base text)
  unfolding judged_relative
  is_resumed = (judges (judged recipe inputs base) (saves.is_resumed recipe inputs base) (saves.is_settled recipe inputs base)).0

  pub is_settled : judged_relative recipe inputs base text ≢ Err OutOfMemory
  unfolding judged_relative
  is_settled = (judges (judged recipe inputs base) (saves.is_resumed recipe inputs base) (saves.is_settled recipe inputs base)).1

  abbrev pub answered : DeltaAnswer recipe inputs base text
  answered = record { result = judged_relative recipe inputs base text; resumes = is_resumed; settled = is_settled }

  goes_on : (b : Position) (result : Result Position DeltaRefusal) → GoesOnRelative recipe (save_of recipe inputs b) text result → result ≢ Err OutOfMemory → judged_from recipe (save_of recipe inputs b) text ≡ result
  goes_on b (Ok p) (own, delta, is, position, same) settled =
      passed _ (is_test (named b)) _ _ own ∙ ap (position_relative recipe (save_of recipe inputs b)) is
      ∙ chosen _ (saves.is_saved_position recipe (save_relative (save_of recipe inputs b) delta)) _ _ position ∙ ap Ok (sym same)
  goes_on b (Err OtherBase) other settled = chosen _ (is_test (named b)) _ _ other
  goes_on b (Err (Form offset)) (own, is) settled = passed _ (is_test (named b)) _ _ own ∙ ap (position_relative recipe (save_of recipe inputs b)) is
  goes_on b (Err State) (own, delta, is, not) settled =
      passed _ (is_test (named b)) _ _ own ∙ ap (position_relative recipe (save_of recipe inputs b)) is
      ∙ passed _ (saves.is_saved_position recipe (save_relative (save_of recipe inputs b) delta)) _ _ not
  goes_on b (Err OutOfMemory) goes settled = absurd (settled refl)
  goes_on b (Err (Base refusal)) goes settled = absurd goes

  following : (b : Position) (result : Result Position DeltaRefusal) → Resumes recipe inputs base (Ok b) → GoesOnRelative recipe (save_of recipe inputs b) text result → result ≢ Err OutOfMemory
      → judged_relative recipe inputs base text ≡ result
  unfolding judged_relative
  following b result r goes settled = ap (after_base recipe inputs text) (saves.is_answer recipe inputs base (Ok b) r (λ e. cc)) ∙ goes_on b result goes settled

  pub is_answer : (result : Result Position DeltaRefusal) → ResumesRelative recipe inputs base text result → result ≢ Err OutOfMemory → judged_relative recipe inputs base text ≡ result
  unfolding judged_relative
  is_answer (Ok p) (b, r, goes) settled = following b (Ok p) r goes settled
  is_answer (Err OtherBase) (b, r, goes) settled = following b (Err OtherBase) r goes settled
  is_answer (Err (Form offset)) (b, r, goes) settled = following b (Err (Form offset)) r goes settled
  is_answer (Err State) (b, r, goes) settled = following b (Err State) r goes settled
  is_answer (Err (Base refusal)) (r, other) settled = ap (after_base recipe inputs text) (saves.is_answer recipe inputs base (Err refusal) r (λ e. other cc))
  is_answer (Err OutOfMemory) resumes settled = absurd (settled refl)

  pub one_answer : (first second : DeltaAnswer recipe inputs base text) → first.result ≡ second.result
  one_answer first second = sym (is_answer first.result first.resumes first.settled) ∙ is_answer second.result second.resumes second.settled
