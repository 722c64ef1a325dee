-- Stretches in a row, and where they leave an audit.
use Rattle.std.proofs.Common.{◌≡◌, ℕ, ◌+◌, ◌-◌, ◌≤◌, Some, Result, Ok, Err, OnErr, List, [], refl, sym, ap, ◌∙◌, arith, subst}
use Rattle.ddc_base.specs.declared.byte_list.OutOfMemory.{OutOfMemory}
use Rattle.guest_run.specs.State.{GuestState}
use Rattle.recipe.specs.declared.contents.RecipeContents.{RecipeContents}
use Rattle.recipe.specs.Kept as kept
use Rattle.audit_rules.specs.declared.answer.StageFault.{StageFault}
use Rattle.audit_rules.specs.declared.answer.Finished.{Finished}
use Rattle.audit_rules.specs.Positions.{Position, Phase, On, Over, at, stage_closed, enter, forward, forward_from, todo}
use Rattle.audit_rules.specs.Valid.{AreDone, IsInputs, IsPosition, IsPhase}
use Rattle.audit_rules.proofs.Forwards.{forward_from-sum}
use Rattle.audit_rules.proofs.ValidPositions.{enter-phase}
use Rattle.audit_rules.proofs.Rules.{rules}
use Rattle.audit_run.specs.declared.phase.EndedGuest.{EndedGuest}
use Rattle.audit_run.specs.declared.phase.EndedGuest.TheVariants.{Kept, GivenUp}
use Rattle.audit_run.specs.declared.phase.Moved.{Moved}
use Rattle.audit_run.specs.declared.phase.Moved.TheVariants as moved
use Rattle.audit_run.specs.declared.phase.AuditPhase.{AuditPhase}
use Rattle.audit_run.specs.declared.phase.AuditPhase.TheVariants as audit
use Rattle.audit_run.specs.Advances.{StopsAt, WantsWithin}
use Rattle.audit_run.specs.Seen.{phase}
use Rattle.audit_run.specs.Inside.Parts.{IsPhaseAfter, IsStarted, KeepsPhase, later, seen, SlicesBy, current, StopsIn, WantsAfter}
use Rattle.audit_run.proofs.Present.{stays}

-- where an audit stands that has started
pub phase-after : (recipe : RecipeContents) (inputs : List (List ℕ)) (done : List Finished) (where_it_is : AuditPhase) → IsStarted where_it_is → IsPhase recipe (current recipe inputs done where_it_is)
    → IsPhaseAfter recipe done where_it_is
phase-after recipe inputs done audit.Ready started ok = absurd started
phase-after recipe inputs done (audit.Running guest) started ok = ok
phase-after recipe inputs done (audit.Over answer) started ok = ok

pub entered-phase : (recipe : RecipeContents) (inputs : List (List ℕ)) (done : List Finished) (entered : AuditPhase) → kept.IsRecipe recipe → IsInputs recipe inputs → AreDone recipe done
    → IsStarted entered → current recipe inputs done entered ≡ enter recipe inputs done (todo recipe done) → IsPhaseAfter recipe done entered
entered-phase recipe inputs done entered is given are started stood =
    phase-after recipe inputs done entered started
    (subst (IsPhase recipe) (sym stood) (enter-phase recipe (rules recipe is) inputs given done (todo recipe done) are refl))

-- before the first advance nothing is done
pub ready-done : (recipe : RecipeContents) (done : List Finished) (where_it_is : AuditPhase) → where_it_is ≡ audit.Ready → IsPhaseAfter recipe done where_it_is → AreDone recipe done
ready-done recipe done where_it_is ready ok =
    let none : done ≡ [] = subst (IsPhaseAfter recipe done) ready ok in
    subst (AreDone recipe) (sym none) (record { each = tt; small = omega arith })

-- want of memory after some steps more
stops-later : (recipe : RecipeContents) (inputs : List (List ℕ)) (from between to : Phase) (first most left : ℕ) → between ≡ forward_from recipe inputs from first → first + left ≤ most
    → StopsIn recipe inputs between left to → StopsIn recipe inputs from most to
stops-later recipe inputs from between (Over answer) first most left is le stops = absurd stops
stops-later recipe inputs from between (On p) first most left is le stops = record {
  count = first + stops.count;
  fewer = omega (arith, le, stops.fewer);
  reached = sym (forward_from-sum recipe inputs from first stops.count (first + stops.count) refl) ∙ ap (λ s. forward_from recipe inputs s stops.count) (sym is) ∙ stops.reached;
  wants = stops.wants;
}

pub wants-later : (ended : EndedGuest) (recipe : RecipeContents) (inputs : List (List ℕ)) (from between : Phase) (done : List Finished) (where_it_is : AuditPhase) (first most left : ℕ)
    → between ≡ forward_from recipe inputs from first → first + left ≤ most → WantsAfter ended recipe inputs between left done where_it_is
    → WantsAfter ended recipe inputs from most done where_it_is
wants-later Kept recipe inputs from between done where_it_is first most left is le wants =
    (wants.0, wants.1, stops-later recipe inputs from between (current recipe inputs done where_it_is) first most left is le wants.2)
wants-later GivenUp recipe inputs from between done where_it_is first most left is le wants =
    (wants.0, stops-later recipe inputs from between (On wants.0) first most left is le wants.1)

-- where an audit stopped that was entered, the audit may stop
pub wants-within : (recipe : RecipeContents) (inputs : List (List ℕ)) (done shown : List Finished) (where_it_is entered : AuditPhase) (most : ℕ) (result : Result (Unit {0}) OutOfMemory) → shown ≡ done
    → current recipe inputs shown entered ≡ current recipe inputs shown where_it_is
    → OnErr result ((p : Position) × StopsAt recipe inputs (current recipe inputs done entered) most p)
    → OnErr result (WantsWithin (record { recipe = recipe; inputs = inputs; current = seen done where_it_is }) most)
wants-within recipe inputs done shown where_it_is entered most (Ok done_with) same stood stops = tt
wants-within recipe inputs done shown where_it_is entered most (Err error) same stood stops =
    let from : current recipe inputs done entered ≡ current recipe inputs done where_it_is =
    subst (λ d. current recipe inputs d entered ≡ current recipe inputs d where_it_is) same stood in
    (Some (On stops.0), subst (λ s. StopsAt recipe inputs s most stops.0) (from ∙ by_phase where_it_is) stops.1) where
      by_phase : (q : AuditPhase) → current recipe inputs done q ≡ phase (record { recipe = recipe; inputs = inputs; current = seen done q })
      by_phase audit.Ready = refl
      by_phase (audit.Running guest) = refl
      by_phase (audit.Over answer) = refl

module _ (recipe : RecipeContents) (inputs : List (List ℕ)) (is : kept.IsRecipe recipe) (given : IsInputs recipe inputs) (done shown : List Finished) (same : shown ≡ done)
    (where_it_is : AuditPhase) (guest new : GuestState) (runs : where_it_is ≡ audit.Running guest) (ok : IsPhaseAfter recipe done where_it_is) where
  here : IsPosition recipe (at done guest)
  here = subst (IsPhaseAfter recipe done) runs ok

  pub goes-current : (taken : ℕ) (step : Moved) → step ≡ moved.Goes → SlicesBy recipe inputs shown (later recipe shown) guest taken step new → IsPosition recipe (at done new)
  goes-current taken step goes slices =
      stays recipe inputs (at done guest) taken (On (at done new)) is given here
      (subst (λ d. forward recipe inputs (at d guest) taken ≡ On (at d new)) same (subst (λ s. SlicesBy recipe inputs shown (later recipe shown) guest taken s new) goes slices))

  ended-by : (taken : ℕ) (step : Moved) (r : Result Finished StageFault) (f : Finished) → step ≡ moved.Ended r → r ≡ Ok f
      → SlicesBy recipe inputs shown (later recipe shown) guest taken step new → SlicesBy recipe inputs done (later recipe done) guest taken (moved.Ended (Ok f)) new
  ended-by taken step r f ends good slices =
      subst (λ d. SlicesBy recipe inputs d (later recipe d) guest taken (moved.Ended (Ok f)) new) same
      (subst (λ q. SlicesBy recipe inputs shown (later recipe shown) guest taken (moved.Ended q) new) good
      (subst (λ s. SlicesBy recipe inputs shown (later recipe shown) guest taken s new) ends slices))

  pub closed-current : (taken : ℕ) (step : Moved) (r : Result Finished StageFault) (f : Finished) (done' : List Finished) (phase' : AuditPhase) → step ≡ moved.Ended r → r ≡ Ok f
      → SlicesBy recipe inputs shown (later recipe shown) guest taken step new
      → current recipe inputs done' phase' ≡ stage_closed recipe inputs done (later recipe done) (Ok f) → IsStarted phase' → IsPhaseAfter recipe done' phase'
  closed-current taken step r f done' phase' ends good slices stood started =
      let by = ended-by taken step r f ends good slices in
      phase-after recipe inputs done' phase' started
      (subst (IsPhase recipe) (sym stood) (stays recipe inputs (at done guest) taken (stage_closed recipe inputs done (later recipe done) (Ok f)) is given here by.0))

  -- memory was wanting for a step, or where the stage is done
  from-here : (ended : EndedGuest) (most : ℕ) (done' : List Finished) (phase' : AuditPhase) → StopsAt recipe inputs (On (at done guest)) most (at done new) → done' ≡ done
      → KeepsPhase ended (audit.Running new) phase' → WantsAfter ended recipe inputs (current recipe inputs done where_it_is) most done' phase'
  from-here ended most done' phase' stops back left = by_ended ended left where
    stopped : StopsAt recipe inputs (current recipe inputs done where_it_is) most (at done new)
    stopped = subst (λ (q : AuditPhase). StopsAt recipe inputs (current recipe inputs done q) most (at done new)) (sym runs) stops

    by_ended : (ended : EndedGuest) → KeepsPhase ended (audit.Running new) phase' → WantsAfter ended recipe inputs (current recipe inputs done where_it_is) most done' phase'
    by_ended GivenUp left = (at done new, stopped)
    by_ended Kept left =
        subst (λ d. WantsAfter Kept recipe inputs (current recipe inputs done where_it_is) most d phase') (sym back)
        (subst (WantsAfter Kept recipe inputs (current recipe inputs done where_it_is) most done) (sym left)
        (tt, stays recipe inputs (at done guest) stops.count (On (at done new)) is given here stops.reached, stopped))

  pub closing-wants : (ended : EndedGuest) (most taken : ℕ) (step : Moved) (r : Result Finished StageFault) (f : Finished) (done' : List Finished) (phase' : AuditPhase)
      → step ≡ moved.Ended r → r ≡ Ok f → SlicesBy recipe inputs shown (later recipe shown) guest taken step new → 1 ≤ taken → taken ≤ most → done' ≡ done
      → KeepsPhase ended (audit.Running new) phase' → WantsAfter ended recipe inputs (current recipe inputs done where_it_is) most done' phase'
  closing-wants ended most taken step r f done' phase' ends good slices some le back left =
      let by = ended-by taken step r f ends good slices in
      from-here ended most done' phase' (record { count = taken - 1; fewer = omega (arith, some, le); reached = by.1; wants = by.2 }) back left

  pub running-wants : (ended : EndedGuest) (most : ℕ) → StopsAt recipe inputs (On (at shown guest)) most (at shown new)
      → WantsAfter ended recipe inputs (current recipe inputs done where_it_is) most done (audit.Running new)
  running-wants ended most stops =
      from-here ended most done (audit.Running new) (subst (λ d. StopsAt recipe inputs (On (at d guest)) most (at d new)) same stops) refl (unmoved ended) where
        unmoved : (ended : EndedGuest) → KeepsPhase ended (audit.Running new) (audit.Running new)
        unmoved Kept = refl
        unmoved GivenUp = tt
