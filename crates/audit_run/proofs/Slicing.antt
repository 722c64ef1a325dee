-- What a slice of a stage's run means.
use Rattle.std.proofs.Common.{◌≡◌, ℕ, zero, suc, ◌+◌, ◌-◌, ◌<◌, ◌≤◌, true, Some, Result, Ok, Err, List, IsTrue, refl, sym, ap, ◌∙◌, arith, subst}
use Rattle.std.proofs.lemmas.Bool.{false≢true}
use Rattle.ddc_base.specs.declared.byte_list.OutOfMemory.{OutOfMemory}
use Rattle.guest_run.specs.State.{GuestState}
use Rattle.guest_run.specs.declared.run.RunEnd.TheVariants as answer
use Rattle.guest_run.specs.Run.{End, Exited, Next, Goes, Ends, StepTakesMemory, first_end, step_goes_on, next, Runs as RunsBy, steps_between}
use Rattle.guest_run.proofs.Running.{after-counted}
use Rattle.recipe.specs.declared.contents.RecipeContents.{RecipeContents}
use Rattle.recipe.specs.declared.parts.Stage.{Stage}
use Rattle.recipe.specs.Kept as kept
use Rattle.audit_rules.specs.declared.answer.StageFault.{StageFault}
use Rattle.audit_rules.specs.declared.answer.StageFault.TheVariants.{Runs}
use Rattle.audit_rules.specs.declared.answer.Finished.{Finished}
use Rattle.audit_rules.specs.declared.cause.RunCause.TheVariants as run
use Rattle.audit_rules.specs.Stages.{ending}
use Rattle.audit_rules.specs.Positions.{Position, On, at, stage_closed, forward}
use Rattle.audit_rules.specs.Valid.{IsAt, IsInputs}
use Rattle.audit_rules.proofs.Endings.{ended}
use Rattle.audit_rules.proofs.ValidPositions.{done-more}
use Rattle.audit_rules.proofs.Rules.{rules}
use Rattle.audit_rules.proofs.Slices.{end-step, slice-end, slice-on, slice-spent}
use Rattle.audit_run.specs.Stage.Makes.{Makes}
use Rattle.audit_run.specs.declared.phase.Moved.TheVariants as moved
use Rattle.audit_run.specs.Advances.{Wants, WantsBy}
use Rattle.audit_run.specs.Inside.Parts.{Slices}
use Rattle.audit_run.proofs.Present.{same-stage, stays}

-- what the next step takes memory for
wants-by : (recipe : RecipeContents) (p : Position) (stage : Stage) (stages : List Stage) (n : Next) → IsAt recipe p stage stages → next p.at ≡ n → WantsBy stage p n → Wants recipe p
wants-by recipe p stage stages n ok is wants = (stage, stages, ok.left, subst (WantsBy stage p) (sym is) wants)

wants-step : (recipe : RecipeContents) (p : Position) (stage : Stage) (stages : List Stage) → IsAt recipe p stage stages → IsTrue (step_goes_on (next p.at)) → StepTakesMemory p.at → Wants recipe p
wants-step recipe p stage stages ok on takes = by_next (next p.at) refl on where
  by_next : (n : Next) → next p.at ≡ n → step_goes_on n ≡ true → Wants recipe p
  by_next (Goes to) is on = wants-by recipe p stage stages (Goes to) ok is takes
  by_next (Ends end) is on = absurd (false≢true on)

module _ (recipe : RecipeContents) (inputs : List (List ℕ)) (done : List Finished) (stage : Stage) (stages : List Stage) (old new : GuestState) (ok : IsAt recipe (at done old) stage stages) (is_recipe : kept.IsRecipe recipe) (given : IsInputs recipe inputs) where
  pub slices-goes : (most slice : ℕ) → RunsBy old slice answer.Spent new → 1 ≤ slice → slice ≤ most → new.steps < stage.steps
      → Slices recipe inputs done stages old most (Ok (slice, moved.Goes)) new
  slices-goes most slice runs one le within =
      let counted = after-counted old new slice runs.1 in
      (slice-on recipe inputs done stage stages ok.left old new slice runs.1 (omega arith), one, le)

  pub slices-spent : (most slice : ℕ) → RunsBy old slice answer.Spent new → 1 ≤ slice → slice ≤ most → old.steps + slice ≤ stage.steps → stage.steps ≤ new.steps
      → Slices recipe inputs done stages old most (Ok (slice, moved.Ended (Err (Runs run.Spent stage.steps)))) new
  slices-spent most zero runs one le fits all = absurd (omega (arith, one))
  slices-spent most (suc count) runs one le fits all =
      let counted = after-counted old new (suc count) runs.1 in
      let reached : old.steps + suc count ≡ stage.steps = omega (arith, counted) in
      (slice-spent recipe inputs done stage stages ok.left old new count runs.1 reached, one, le)

  -- the position before an end, which no step has left
  record Before (slice : ℕ) (end : End) : Type 0 where
    count : ℕ
    fewer : count < slice
    reached : forward recipe inputs (at done old) count ≡ On (at done new)
    counted : new.steps ≡ old.steps + count
    ends : next new ≡ Ends end
    position : IsAt recipe (at done new) stage stages

  here : (count : ℕ) → forward recipe inputs (at done old) count ≡ On (at done new) → IsAt recipe (at done new) stage stages
  here count reached =
      same-stage recipe (at done new) stage stages (stays recipe inputs (at done old) count (On (at done new)) is_recipe given (stage, stages, ok) reached) ok.left

  before-end : (slice : ℕ) (end : End) → first_end old slice ≡ Some (end, new) → old.steps + slice ≤ stage.steps → Before slice end
  before-end slice end is fits =
      let there = end-step old slice (end, new) is in
      let counted = after-counted old new there.0 there.2 in
      let reached = slice-on recipe inputs done stage stages ok.left old new there.0 there.2 (omega (arith, there.1)) in
      record {
        count = there.0;
        fewer = there.1;
        reached = reached;
        counted = counted;
        ends = there.3;
        position = here there.0 reached;
      }

  pub slices-end : (most slice taken : ℕ) (end : End) (r : Result Finished StageFault) → first_end old slice ≡ Some (end, new) → slice ≤ most
      → old.steps + slice ≤ stage.steps → taken ≡ new.steps + 1 - old.steps → r ≡ ending recipe inputs done stage end new
      → Slices recipe inputs done stages old most (Ok (taken, moved.Ended r)) new
  slices-end most slice taken end r is le fits counts meant = by_result r meant where
    there : Before slice end
    there = before-end slice end is fits

    same : taken ≡ suc (new.steps - old.steps)
    same = omega (arith, counts, there.counted)

    whole : (r : Result Finished StageFault) → r ≡ ending recipe inputs done stage end new → forward recipe inputs (at done old) taken ≡ stage_closed recipe inputs done stages r
    whole r meant =
        ap (forward recipe inputs (at done old)) same
        ∙ slice-end recipe inputs done stage stages ok.left old new slice end is fits
        ∙ ap (stage_closed recipe inputs done stages) (sym meant)

    by_result : (r : Result Finished StageFault) → r ≡ ending recipe inputs done stage end new → Slices recipe inputs done stages old most (Ok (taken, moved.Ended r)) new
    by_result (Err fault) meant = (whole (Err fault) meant, omega (arith, same), omega (arith, same, there.fewer, there.counted))
    by_result (Ok f) meant =
        let between : taken - 1 ≡ there.count = omega (arith, same, there.counted) in
        let result = ended recipe inputs done stage end new f (sym meant) in
        let exits : next new ≡ Ends (Exited 0) = there.ends ∙ ap Ends result.exit in (
          (
            whole (Ok f) meant,
            ap (forward recipe inputs (at done old)) between ∙ there.reached,
            wants-by recipe (at done new) stage stages (Ends (Exited 0)) there.position exits (record { good = refl; made = result.made; there = result.there; small = result.small }),
            done-more recipe (rules recipe is_recipe) inputs given (at done new) stage stages end f there.position (sym meant),
          ),
          omega (arith, same),
          omega (arith, same, there.fewer, there.counted),
        )

  pub slices-end-out : (most slice status : ℕ) (error : OutOfMemory) → first_end old slice ≡ Some (Exited status, new) → slice ≤ most
      → old.steps + slice ≤ stage.steps → Makes stage done status new.world
      → Slices recipe inputs done stages old most (Err error) new
  slices-end-out most slice status error is le fits makes =
      let there = before-end slice (Exited status) is fits in
      record {
        count = there.count;
        fewer = omega (arith, there.fewer);
        reached = there.reached;
        wants = wants-by recipe (at done new) stage stages (Ends (Exited status)) there.position there.ends makes;
      }

  pub slices-out : (most slice : ℕ) (error : OutOfMemory) → RunsBy old slice answer.OutOfMemory new → slice ≤ most → old.steps + slice ≤ stage.steps
      → Slices recipe inputs done stages old most (Err error) new
  slices-out most slice error runs le fits =
      let reached = slice-on recipe inputs done stage stages ok.left old new (steps_between old new) runs.1 (omega (arith, runs.0)) in
      record {
        count = steps_between old new;
        fewer = omega (arith, runs.0);
        reached = reached;
        wants = wants-step recipe (at done new) stage stages (here (steps_between old new) reached) runs.2 runs.3;
      }
