-- With as many steps as the limits allow an audit is over.
use Rattle.std.proofs.Common.{◌≡◌, ℕ, zero, suc, ◌+◌, ◌≤◌, Result, Ok, Err, List, [], ◌∷◌, ◌++◌, refl, ap, ◌∙◌, arith, inl, inr}
use Rattle.std.proofs.lemmas.Bool.{cases_lt}
use Rattle.guest_run.specs.State.{GuestState}
use Rattle.guest_run.specs.Start.{Refusal}
use Rattle.guest_run.specs.Run.{Next, Goes, Ends, next}
use Rattle.guest_run.proofs.Stepping.{next-counted}
use Rattle.recipe.specs.declared.parts.Stage.{Stage}
use Rattle.recipe.specs.declared.contents.RecipeContents.{RecipeContents}
use Rattle.audit_rules.specs.declared.answer.Finished.{Finished}
use Rattle.audit_rules.specs.declared.answer.StageFault.{StageFault}
use Rattle.audit_rules.specs.declared.answer.AuditAnswer.{AuditAnswer}
use Rattle.audit_rules.specs.Stages.{contents, ending, start_stage}
use Rattle.audit_rules.specs.Positions.{Position, Phase, On, Over, at, stage_closed, enter, entered, forward, onward, step, todo}
use Rattle.audit_rules.specs.Valid.{limits}
use Rattle.audit_rules.proofs.Here.{IsHere}
use Rattle.audit_rules.proofs.Forwards.{forward-over, forward-sum}
use Rattle.audit_rules.proofs.Slices.{step-next, went-on, went-spent}
use Rattle.audit_rules.proofs.Continues.{AllMayStep, first_may, fresh, todo-next}

forward-one : (recipe : RecipeContents) (inputs : List (List ℕ)) (p : Position) → forward recipe inputs p 1 ≡ step recipe inputs p
unfolding forward
forward-one recipe inputs p = refl

-- many steps, by the first
forward-prefix : (recipe : RecipeContents) (inputs : List (List ℕ)) (p : Position) (count : ℕ) (o : Phase) → step recipe inputs p ≡ o
    → forward recipe inputs p (suc count) ≡ onward o (λ q. forward recipe inputs q count)
forward-prefix recipe inputs p count (On q) is =
    let more : suc count ≡ 1 + count = omega arith in
    ap (forward recipe inputs p) more ∙ forward-sum recipe inputs p q 1 count (forward-one recipe inputs p ∙ is)
forward-prefix recipe inputs p count (Over answer) is =
    let more : suc count ≡ 1 + count = omega arith in
    ap (forward recipe inputs p) more ∙ forward-over recipe inputs p answer 1 count (forward-one recipe inputs p ∙ is)

abbrev IsOver : RecipeContents → List (List ℕ) → Position → ℕ → Type 0
IsOver recipe inputs p count = (answer : AuditAnswer) × (forward recipe inputs p count ≡ Over answer)

pub enough : (recipe : RecipeContents) → AllMayStep recipe → (inputs : List (List ℕ)) (fuel : ℕ) (p : Position) (stage : Stage) (stages : List Stage) → IsHere recipe p stage stages
    → limits (stage ∷ stages) ≤ p.at.steps + fuel → IsOver recipe inputs p fuel
enough recipe all inputs zero p stage stages ok le = absurd (omega (arith, ok.within, le))
enough recipe all inputs (suc fuel) p stage stages ok le =
    by_next (next p.at) refl (λ q stage' stages' ok' le'. enough recipe all inputs fuel q stage' stages' ok' le') where
      Again : Type 0
      Again = (q : Position) (stage' : Stage) (stages' : List Stage) → IsHere recipe q stage' stages' → limits (stage' ∷ stages') ≤ q.at.steps + fuel → IsOver recipe inputs q fuel

      over : (answer : AuditAnswer) → step recipe inputs p ≡ Over answer → IsOver recipe inputs p (suc fuel)
      over answer is = (answer, forward-prefix recipe inputs p fuel (Over answer) is)

      on : (q : Position) → step recipe inputs p ≡ On q → IsOver recipe inputs q fuel → IsOver recipe inputs p (suc fuel)
      on q is later = (later.0, forward-prefix recipe inputs p fuel (On q) is ∙ later.1)

      rest : limits stages ≤ fuel
      rest = omega (arith, ok.within, le)

      by_begin : (done : List Finished) (stage' : Stage) (stages' : List Stage) (s : Result GuestState Refusal) → todo recipe done ≡ stage' ∷ stages' → limits (stage' ∷ stages') ≤ fuel
          → start_stage recipe (contents inputs done) stage' ≡ s → step recipe inputs p ≡ entered done s → Again → IsOver recipe inputs p (suc fuel)
      by_begin done stage' stages' (Err why) left le' started is again = over _ is
      by_begin done stage' stages' (Ok guest) left le' started is again =
          let zero_steps = fresh _ _ guest started in
          let may = first_may recipe all done stage' stages' left in
          on (at done guest) is (again (at done guest) stage' stages' (record { left = left; within = omega arith }) (omega (arith, le')))

      by_rest : (done : List Finished) (todo' : List Stage) → todo recipe done ≡ todo' → limits todo' ≤ fuel → step recipe inputs p ≡ enter recipe inputs done todo' → Again → IsOver recipe inputs p (suc fuel)
      by_rest done [] left le' is again = over _ is
      by_rest done (stage' ∷ stages') left le' is again = by_begin done stage' stages' (start_stage recipe (contents inputs done) stage') left le' refl is again

      by_result : (r : Result Finished StageFault) → step recipe inputs p ≡ stage_closed recipe inputs p.done stages r → Again → IsOver recipe inputs p (suc fuel)
      by_result (Err fault) is again = over _ is
      by_result (Ok f) is again = by_rest (p.done ++ f ∷ []) stages (todo-next recipe p.done f stage stages ok.left) rest is again

      by_next : (n : Next) → next p.at ≡ n → Again → IsOver recipe inputs p (suc fuel)
      by_next (Ends why) is again =
          by_result (ending recipe inputs p.done stage why p.at) (step-next recipe inputs p stage stages (Ends why) ok.left is) again
      by_next (Goes to) is again =
          let counted = next-counted p.at to is in
          let went = step-next recipe inputs p stage stages (Goes to) ok.left is in
          elim (cases_lt to.steps stage.steps) [
            | inl lt ↦ on (at p.done to) (went ∙ went-on p.done stage to lt) (again (at p.done to) stage stages (record { left = ok.left; within = lt }) (omega (arith, le, counted)))
            | inr ge ↦ over _ (went ∙ went-spent p.done stage to ge)
          ]
