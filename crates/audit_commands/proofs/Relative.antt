-- An audit goes on from a base, or from a base and a delta, or they are refused.
use Rattle.std.proofs.Common.{◌≡◌, ◌≢◌, ℕ, List, Some, Result, Ok, Err, refl, sym, ap, ◌∙◌, subst}
use Rattle.std.specs.Borrow.{Bor}
use Rattle.ddc_base.specs.Outside.{ShelfState}
use Rattle.recipe.specs.Kept.{IsRecipe}
use Rattle.recipe.specs.declared.contents.RecipeContents.{RecipeContents}
use Rattle.audit_rules.specs.Positions.{Position, On, forward, forward_from}
use Rattle.audit_rules.specs.Valid.{IsInputs}
use Rattle.audit_run.specs.Delta.Audits.{IsResumedRelative, ResumesAuditRelative}
use Rattle.audit_run.specs.Delta.Deltas.{IsBaseAt, ResumesRelative, delta_text_of}
use Rattle.audit_run.specs.Delta.Judged.{after_base, judged_relative}
use Rattle.audit_run.specs.Save.Saves.{Resumes}
use Rattle.audit_run.specs.Saved.{IsResumed, ResumesAudit, phase_at}
use Rattle.audit_run.specs.Seen.{AuditState, phase}
use Rattle.audit_run.specs.declared.delta.reading.DeltaRefusal.{DeltaRefusal}
use Rattle.audit_run.specs.declared.delta.reading.DeltaRefusal.TheVariants as delta
use Rattle.audit_run.specs.declared.save.reading.SaveRefusal.{SaveRefusal}
use Rattle.audit_run.specs.declared.save.reading.SaveRefusal.TheVariants as save
use Rattle.audit_run.proofs.DeltaLemmas.Answered as relative
use Rattle.audit_run.proofs.SaveLemmas.Answered as whole
use Rattle.audit_run.proofs.SaveLemmas.Exactly as exactly
use Rattle.command_plan.specs.declared.answer.Answer.{Answer}
use Rattle.command_plan.specs.declared.stop.Stop.{Stop}
use Rattle.command_plan.specs.declared.stop.Stop.TheVariants as stop
use Rattle.command_plan.specs.declared.status.Status.TheVariants.{SaveRefused}
use Rattle.command_plan.specs.Performs.{Performs}
use Rattle.command_plan.specs.Plan.{Plan, answers, unless_refused}
use Rattle.command_plan.specs.Steps.{Says}
use Rattle.command_plan.proofs.Performing.{says, wants_memory}
use Rattle.audit_commands.specs.declared.going.Kept.TheVariants.{Relative}
use Rattle.audit_commands.specs.Delta.{needs_position_relative, read_relative, resumes_relative, starts_relative}
use Rattle.audit_commands.specs.Inside.Keeping.{Keeps}
use Rattle.audit_commands.specs.Inside.Refusing.{Refuses, RefusesDelta}
use Rattle.audit_commands.specs.Pause.{came_to, needs_position, read_as}
use Rattle.audit_commands.specs.PauseTexts.{delta_refused_line, save_refused_line}

-- what is judged leads to a value or to an answer
read_leads : {A E : Type 0} (reading : Result A E) (refuse : E → Plan) (next : A → Plan) (value : A) (old new : ShelfState) (result : Result Answer Stop)
    → reading ≡ Ok value → Performs (next value) old new result → Performs (unless_refused reading refuse next) old new result
read_leads reading refuse next value old new result is p = subst (λ plan. Performs plan old new result) (sym (ap (λ r. unless_refused r refuse next) is)) p

read_refuses : {A E : Type 0} (reading : Result A E) (refuse : E → Plan) (next : A → Plan) (why : E) (old new : ShelfState) (result : Result Answer Stop)
    → reading ≡ Err why → Performs (refuse why) old new result → Performs (unless_refused reading refuse next) old new result
read_refuses reading refuse next why old new result is p = subst (λ plan. Performs plan old new result) (sym (ap (λ r. unless_refused r refuse next) is)) p

-- an audit stands at one position
same_position : (recipe : RecipeContents) (inputs : List (List ℕ)) (audit : AuditState) (p q : Position) → audit ≡ phase_at recipe inputs p → audit ≡ phase_at recipe inputs q → p ≡ q
same_position recipe inputs audit p q first second =
    let both : Some (On p) ≡ Some (On q) = ap (λ (a : AuditState). a.current) (sym first ∙ second) in
    cc

module _ (recipe : RecipeContents) (inputs : List (List ℕ)) (base : Bor (List ℕ)) (patch report : List ℕ) (steps : ℕ) where
  -- an audit that was resumed goes on, with what is kept relative to the base
  abbrev GoesOn : AuditState → ShelfState → ShelfState → Result Answer Stop → Type 0
  GoesOn audit old new result = (text : Position → List ℕ) → Keeps audit.recipe audit.inputs (Relative base) text
      → Performs (came_to audit.recipe text patch report (forward_from audit.recipe audit.inputs (phase audit) steps)) old new result

  came_relative : (b p : Position) (audit : AuditState) (old new : ShelfState) (result : Result Answer Stop) → IsBaseAt recipe inputs b base.now → audit ≡ phase_at recipe inputs p
      → GoesOn audit old new result → Performs (came_to recipe (delta_text_of recipe inputs b) patch report (forward recipe inputs p steps)) old new result
  came_relative b p audit old new result is at goes =
      subst (λ (a : AuditState). GoesOn a old new result) at goes (delta_text_of recipe inputs b) (b, is, λ q. refl)

  -- ---- the base

  is_read : (result : Result Position SaveRefusal) → result ≢ Err save.OutOfMemory → Resumes recipe inputs base.now result → read_as recipe inputs base.now ≡ result
  unfolding read_as
  is_read result settled r = whole.is_answer recipe inputs base.now result r settled

  pub starts : (audit : AuditState) (old new : ShelfState) (result : Result Answer Stop) → ResumesAudit recipe inputs base.now (Ok audit) → IsResumed recipe inputs base.now audit
      → GoesOn audit old new result → Performs (starts_relative recipe inputs base.now patch report steps) old new result
  starts audit old new result r found goes =
      let same = same_position recipe inputs audit found.0 r.0 found.1 r.1 in
      read_leads (read_as recipe inputs base.now) (λ refusal. answers SaveRefused (save_refused_line refusal))
      (λ b. came_to recipe (delta_text_of recipe inputs b) patch report (forward recipe inputs b steps)) r.0 old new result
      (is_read (Ok r.0) (λ never. cc) r.2)
      (came_relative r.0 r.0 audit old new result (subst (λ b. IsBaseAt recipe inputs b base.now) same (found.2, found.3)) r.1 goes)

  -- the base is refused, whatever follows it
  base_refused : (next : Position → Plan) (refusal : SaveRefusal) (shelf : ShelfState) (result : Result Answer Stop) → refusal ≢ save.OutOfMemory
      → Resumes recipe inputs base.now (Err refusal) → Says (answers SaveRefused (save_refused_line refusal)) result
      → Performs (needs_position recipe inputs base.now next) shelf shelf result
  base_refused next refusal shelf result other r answered =
      read_refuses (read_as recipe inputs base.now) (λ why. answers SaveRefused (save_refused_line why)) next refusal shelf shelf result
      (is_read (Err refusal) (λ wants. other cc) r) (says (answers SaveRefused (save_refused_line refusal)) shelf result answered)

  wants : (plan : Plan) (shelf : ShelfState) (result : Result Answer Stop) → result ≡ Err stop.OutOfMemory → Performs plan shelf shelf result
  wants plan shelf result is = subst (Performs plan shelf shelf) (sym is) (wants_memory plan shelf)

  pub start_refused : (refusal : SaveRefusal) (shelf : ShelfState) (result : Result Answer Stop) → ResumesAudit recipe inputs base.now (Err refusal) → Refuses refusal result
      → Performs (starts_relative recipe inputs base.now patch report steps) shelf shelf result
  start_refused save.OutOfMemory shelf result r answered = wants (starts_relative recipe inputs base.now patch report steps) shelf result answered
  start_refused (save.Form offset) shelf result r answered = base_refused _ (save.Form offset) shelf result (λ same. cc) r answered
  start_refused save.OtherRecipe shelf result r answered = base_refused _ save.OtherRecipe shelf result (λ same. cc) r answered
  start_refused save.State shelf result r answered = base_refused _ save.State shelf result (λ same. cc) r answered

  -- ---- the delta

  module _ (text : List ℕ) where
    is_read_relative : (b : Position) (result : Result Position DeltaRefusal) → result ≢ Err delta.OutOfMemory → Resumes recipe inputs base.now (Ok b)
        → ResumesRelative recipe inputs base.now text result → read_relative recipe inputs b text ≡ result
    unfolding read_relative judged_relative
    is_read_relative b result settled r rules =
        sym (ap (after_base recipe inputs text) (whole.is_answer recipe inputs base.now (Ok b) r (λ never. cc)))
        ∙ relative.is_answer recipe inputs base.now text result rules settled

    pub resumes : (audit : AuditState) (old new : ShelfState) (result : Result Answer Stop) → IsRecipe recipe → IsInputs recipe inputs
        → ResumesAuditRelative recipe inputs base.now text (Ok audit) → IsResumedRelative recipe inputs base.now text audit
        → GoesOn audit old new result → Performs (resumes_relative recipe inputs base.now text patch report steps) old new result
    resumes audit old new result is given r found goes =
        let p : Position = r.0 in
        let b : Position = r.2.0 in
        let base_is = found.3.1 in
        let same : b ≡ found.3.0 = exactly.is_only recipe inputs base.now (Ok b) is given r.2.1 found.3.0 base_is.0 base_is.1 in
        read_leads (read_as recipe inputs base.now) (λ refusal. answers SaveRefused (save_refused_line refusal))
        (λ b. needs_position_relative recipe inputs b text (λ p. came_to recipe (delta_text_of recipe inputs b) patch report (forward recipe inputs p steps))) b old new result
        (is_read (Ok b) (λ never. cc) r.2.1)
        (read_leads (read_relative recipe inputs b text) (λ refusal. answers SaveRefused (delta_refused_line refusal))
        (λ p. came_to recipe (delta_text_of recipe inputs b) patch report (forward recipe inputs p steps)) p old new result
        (is_read_relative b (Ok p) (λ never. cc) r.2.1 r.2)
        (came_relative b p audit old new result (subst (λ q. IsBaseAt recipe inputs q base.now) (sym same) base_is) r.1 goes))

    -- the delta is refused, after a base that is none
    delta_refused : (refusal : DeltaRefusal) (shelf : ShelfState) (result : Result Answer Stop) → refusal ≢ delta.OutOfMemory → (b : Position) → Resumes recipe inputs base.now (Ok b)
        → ResumesRelative recipe inputs base.now text (Err refusal) → Says (answers SaveRefused (delta_refused_line refusal)) result
        → Performs (resumes_relative recipe inputs base.now text patch report steps) shelf shelf result
    delta_refused refusal shelf result other b r rules answered =
        read_leads (read_as recipe inputs base.now) (λ refusal. answers SaveRefused (save_refused_line refusal))
        (λ b. needs_position_relative recipe inputs b text (λ p. came_to recipe (delta_text_of recipe inputs b) patch report (forward recipe inputs p steps))) b shelf shelf result
        (is_read (Ok b) (λ never. cc) r)
        (read_refuses (read_relative recipe inputs b text) (λ refusal. answers SaveRefused (delta_refused_line refusal))
        (λ p. came_to recipe (delta_text_of recipe inputs b) patch report (forward recipe inputs p steps)) refusal shelf shelf result
        (is_read_relative b (Err refusal) (λ wants. other cc) r rules) (says (answers SaveRefused (delta_refused_line refusal)) shelf result answered))

    pub resume_refused : (refusal : DeltaRefusal) (shelf : ShelfState) (result : Result Answer Stop) → ResumesAuditRelative recipe inputs base.now text (Err refusal) → RefusesDelta refusal result
        → Performs (resumes_relative recipe inputs base.now text patch report steps) shelf shelf result
    unfolding save_refused_line delta_refused_line
    resume_refused delta.OutOfMemory shelf result r answered = wants (resumes_relative recipe inputs base.now text patch report steps) shelf result answered
    resume_refused (delta.Base why) shelf result r answered = base_refused _ why shelf result r.1 r.0 answered
    resume_refused (delta.Form offset) shelf result r answered = delta_refused (delta.Form offset) shelf result (λ same. cc) r.0 r.1 r answered
    resume_refused delta.OtherBase shelf result r answered = delta_refused delta.OtherBase shelf result (λ same. cc) r.0 r.1 r answered
    resume_refused delta.State shelf result r answered = delta_refused delta.State shelf result (λ same. cc) r.0 r.1 r answered
