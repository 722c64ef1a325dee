-- What a run of the present guest means for the position.
use Rattle.std.proofs.Common.{◌≡◌, ℕ, zero, suc, ◌+◌, ◌-◌, ◌<◌, ◌≤◌, if◌then◌else◌, Some, List, ◌∷◌, sym, ap, ◌∙◌, arith, length}
use Rattle.std.proofs.lemmas.Option.{same_Some}
use Rattle.std.proofs.lemmas.Bool.{lt-ltb, le-ltb}
use Rattle.guest_run.specs.State.{GuestState}
use Rattle.guest_run.specs.Run.{End, Next, Goes, Ends, after, end_at, first_end, next}
use Rattle.guest_run.proofs.Running.{after-none, after-counted, before}
use Rattle.guest_run.proofs.RunLaws.{ends_after, first_end-at}
use Rattle.audit_rules.specs.declared.cause.RunCause.TheVariants as run
use Rattle.recipe.specs.declared.parts.Stage.{Stage}
use Rattle.recipe.specs.declared.contents.RecipeContents.{RecipeContents}
use Rattle.audit_rules.specs.declared.answer.Finished.{Finished}
use Rattle.audit_rules.specs.declared.answer.StageFault.TheVariants.{Runs}
use Rattle.audit_rules.specs.declared.answer.AuditAnswer.TheVariants.{Fails}
use Rattle.audit_rules.specs.Stages.{ending}
use Rattle.audit_rules.specs.Positions.{Position, On, Over, at, stage_closed, forward, onward, step, step_among, moved, todo, went}

-- a step, by the guest's
pub step-next : (recipe : RecipeContents) (inputs : List (List ℕ)) (p : Position) (stage : Stage) (stages : List Stage) (n : Next)
    → todo recipe p.done ≡ stage ∷ stages → next p.at ≡ n → step recipe inputs p ≡ moved recipe inputs p stage stages n
unfolding step
step-next recipe inputs p stage stages n left is =
    ap (step_among recipe inputs p) left ∙ ap (moved recipe inputs p stage stages) is

pub went-on : (done : List Finished) (stage : Stage) (guest : GuestState) → guest.steps < stage.steps
    → went done stage guest ≡ On (record { done = done; at = guest })
went-on done stage guest lt =
    ap (λ b. if b then On (record { done = done; at = guest }) else Over (Fails (suc (length done)) (Runs run.Spent stage.steps))) (lt-ltb _ _ lt)

pub went-spent : (done : List Finished) (stage : Stage) (guest : GuestState) → stage.steps ≤ guest.steps
    → went done stage guest ≡ Over (Fails (suc (length done)) (Runs run.Spent stage.steps))
went-spent done stage guest le =
    ap (λ b. if b then On (record { done = done; at = guest }) else Over (Fails (suc (length done)) (Runs run.Spent stage.steps))) (le-ltb _ _ le)

-- steps that go on within the limit
pub slice-on : (recipe : RecipeContents) (inputs : List (List ℕ)) (done : List Finished) (stage : Stage) (stages : List Stage)
    → todo recipe done ≡ stage ∷ stages → (guest to : GuestState) (count : ℕ) → after guest count ≡ Some to → guest.steps + count < stage.steps
    → forward recipe inputs (at done guest) count ≡ On (at done to)
unfolding forward
slice-on recipe inputs done stage stages left guest to zero reached lt =
    let same : guest ≡ to = same_Some guest to (sym (after-none guest) ∙ reached) in
    ap (λ g. On (at done g)) same
slice-on recipe inputs done stage stages left guest to (suc count) reached lt =
    let earlier = before guest to count reached in
    let counted = after-counted guest to (suc count) reached in
    ap (λ o. onward o (step recipe inputs)) (slice-on recipe inputs done stage stages left guest earlier.0 count earlier.1 (omega arith))
    ∙ step-next recipe inputs (at done earlier.0) stage stages (Goes to) left earlier.2
    ∙ went-on done stage to (omega arith)

-- the step that follows steps that went on
pub slice-step : (recipe : RecipeContents) (inputs : List (List ℕ)) (done : List Finished) (stage : Stage) (stages : List Stage)
    → todo recipe done ≡ stage ∷ stages → (guest last : GuestState) (count : ℕ) (n : Next) → after guest count ≡ Some last → guest.steps + count < stage.steps
    → next last ≡ n → forward recipe inputs (at done guest) (suc count) ≡ moved recipe inputs (at done last) stage stages n
unfolding forward
slice-step recipe inputs done stage stages left guest last count n reached lt is =
    ap (λ o. onward o (step recipe inputs)) (slice-on recipe inputs done stage stages left guest last count reached lt)
    ∙ step-next recipe inputs (at done last) stage stages n left is

-- steps up to the limit that all go on
pub slice-spent : (recipe : RecipeContents) (inputs : List (List ℕ)) (done : List Finished) (stage : Stage) (stages : List Stage)
    → todo recipe done ≡ stage ∷ stages → (guest to : GuestState) (count : ℕ) → after guest (suc count) ≡ Some to → guest.steps + suc count ≡ stage.steps
    → forward recipe inputs (at done guest) (suc count) ≡ Over (Fails (suc (length done)) (Runs run.Spent stage.steps))
slice-spent recipe inputs done stage stages left guest to count reached all =
    let earlier = before guest to count reached in
    let counted = after-counted guest to (suc count) reached in
    slice-step recipe inputs done stage stages left guest earlier.0 count (Goes to) earlier.1 (omega arith) earlier.2
    ∙ went-spent done stage to (omega arith)

pub no_end-zero : (guest : GuestState) (end : End × GuestState) → end_at guest 0 ≡ Some end → ⊥
unfolding end_at
no_end-zero guest end is = cc

-- where a first end comes
pub end-step : (guest : GuestState) (most : ℕ) (end : End × GuestState) → first_end guest most ≡ Some end
    → (count : ℕ) × (count < most) × (after guest count ≡ Some end.1) × (next end.1 ≡ Ends end.0)
end-step guest most end is =
    let found = first_end-at guest most end is in
    by_number found.0 found.1 found.2 where
      by_number : (number : ℕ) → number ≤ most → end_at guest number ≡ Some end
          → (count : ℕ) × (count < most) × (after guest count ≡ Some end.1) × (next end.1 ≡ Ends end.0)
      by_number zero le is = absurd (no_end-zero guest end is)
      by_number (suc count) le is =
          let ends = ends_after guest count end is in
          (count, omega arith, ends.0, ends.1)

-- an end within the limit
pub slice-end : (recipe : RecipeContents) (inputs : List (List ℕ)) (done : List Finished) (stage : Stage) (stages : List Stage)
    → todo recipe done ≡ stage ∷ stages → (guest last : GuestState) (most : ℕ) (end : End) → first_end guest most ≡ Some (end, last) → guest.steps + most ≤ stage.steps
    → forward recipe inputs (at done guest) (suc (last.steps - guest.steps)) ≡ stage_closed recipe inputs done stages (ending recipe inputs done stage end last)
slice-end recipe inputs done stage stages left guest last most end is le =
    let at_step = end-step guest most (end, last) is in
    let counted = after-counted guest last at_step.0 at_step.2 in
    let same : suc (last.steps - guest.steps) ≡ suc at_step.0 = omega arith in
    ap (forward recipe inputs (at done guest)) same
    ∙ slice-step recipe inputs done stage stages left guest last at_step.0 (Ends end) at_step.2 (omega (arith, at_step.1)) at_step.3
