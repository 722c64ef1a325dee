-- Stages that are run in order, one by one.
use Rattle.std.proofs.Common.{◌≡◌, ℕ, suc, ◌-◌, Result, Ok, Err, IfOk, List, [], ◌∷◌, ◌++◌, length, drop, take, refl, sym, ap, ◌∙◌, arith, subst}
use Rattle.std.proofs.lemmas.List.{drop_all, take-append-drop}
use Rattle.ddc_base.specs.declared.byte_list.OutOfMemory.{OutOfMemory}
use Rattle.guest_run.specs.State.{GuestState}
use Rattle.guest_run.specs.Run.{first_end}
use Rattle.recipe.specs.declared.contents.RecipeContents.{RecipeContents}
use Rattle.recipe.specs.declared.parts.Stage.{Stage}
use Rattle.recipe.specs.Kept as kept
use Rattle.audit_rules.specs.Bench.{after_stage, bench, bench_from}
use Rattle.audit_rules.specs.declared.answer.AuditAnswer.{AuditAnswer}
use Rattle.audit_rules.specs.declared.answer.AuditAnswer.TheVariants.{Completes, Fails}
use Rattle.audit_rules.specs.declared.answer.StageFault.{StageFault}
use Rattle.audit_rules.specs.declared.answer.Finished.{Finished}
use Rattle.audit_rules.specs.Positions.{at, enter, entered, todo}
use Rattle.audit_rules.specs.Stages.{by_end, by_start, contents, stage_result, start_stage}
use Rattle.audit_rules.specs.Valid.{AreDone, IsAt, IsAuditAnswer, IsInputs, IsPhase}
use Rattle.audit_rules.proofs.Closing.{bench-report}
use Rattle.audit_rules.proofs.ValidPositions.{enter-phase}
use Rattle.audit_rules.proofs.Rules.{rules}
use Rattle.audit_run.specs.Earlier.{done_in_order, goes_on_after, unless_unfinished}
use Rattle.audit_run.specs.Stage.Rules.{IsStageOf}
use Rattle.audit_run.specs.declared.earlier.Unfinished.{Unfinished}
use Rattle.audit_run.proofs.Present.{from-index, same-stage, stage-rules}

pub next-rules : (recipe : RecipeContents) (done : List Finished) (stage : Stage) (stages : List Stage) → kept.IsRecipe recipe → todo recipe done ≡ stage ∷ stages → IsStageOf recipe stage
next-rules recipe done stage stages is left = stage-rules recipe (length done) stage is (from-index recipe.stages (length done) stage stages left).0

module _ (recipe : RecipeContents) (inputs : List (List ℕ)) (done : List Finished) (stage : Stage) (stages : List Stage) (guest : GuestState) where
  -- a stage that has started
  pub starts-at : kept.IsRecipe recipe → IsInputs recipe inputs → AreDone recipe done → todo recipe done ≡ stage ∷ stages
      → start_stage recipe (contents inputs done) stage ≡ Ok guest → IsAt recipe (at done guest) stage stages
  starts-at is given are left begins =
      let phase : IsPhase recipe (enter recipe inputs done (stage ∷ stages)) = enter-phase recipe (rules recipe is) inputs given done (stage ∷ stages) are left in
      same-stage recipe (at done guest) stage stages (subst (IsPhase recipe) (ap (entered done) begins) phase) left

  -- what its run comes to
  pub value-of : (result : Result (Result Finished StageFault) OutOfMemory) → guest.steps ≡ 0 → start_stage recipe (contents inputs done) stage ≡ Ok guest
      → IfOk result (λ run. run ≡ by_end recipe inputs done stage (first_end guest (stage.steps - guest.steps)))
      → IfOk result (λ run. run ≡ stage_result recipe inputs done stage)
  value-of (Ok run) none begins is =
      let all : stage.steps - guest.steps ≡ stage.steps = omega (arith, none) in
      is ∙ ap (λ n. by_end recipe inputs done stage (first_end guest n)) all ∙ sym (ap (by_start recipe inputs done stage) begins)
  value-of (Err error) none begins is = tt

-- the bench over stages in a row
following : (recipe : RecipeContents) (inputs : List (List ℕ)) (stages rest : List Stage) (done : List Finished)
    → bench_from recipe inputs done (stages ++ rest) ≡ goes_on_after recipe inputs rest (done_in_order recipe inputs done stages)
following recipe inputs [] rest done = refl
following recipe inputs (stage ∷ stages) rest done = by_result (λ d. following recipe inputs stages rest d) (stage_result recipe inputs done stage) where
  by_result : ((d : List Finished) → bench_from recipe inputs d (stages ++ rest) ≡ goes_on_after recipe inputs rest (done_in_order recipe inputs d stages)) → (r : Result Finished StageFault)
      → after_stage (suc (length done)) r (λ f. bench_from recipe inputs (done ++ f ∷ []) (stages ++ rest))
      ≡ goes_on_after recipe inputs rest (unless_unfinished (suc (length done)) r (λ f. done_in_order recipe inputs (done ++ f ∷ []) stages))
  by_result later (Ok f) = later (done ++ f ∷ [])
  by_result later (Err fault) = refl

pub bench-following : (recipe : RecipeContents) (inputs : List (List ℕ)) (count : ℕ)
    → bench recipe inputs ≡ goes_on_after recipe inputs (drop count recipe.stages) (done_in_order recipe inputs [] (take count recipe.stages))
bench-following recipe inputs count =
    ap (bench_from recipe inputs []) (sym (take-append-drop count recipe.stages)) ∙ following recipe inputs (take count recipe.stages) (drop count recipe.stages) []

-- all stages in a row
pub bench-whole : (recipe : RecipeContents) (inputs : List (List ℕ)) (count : ℕ) (run : Result (List Finished) Unfinished) → count ≡ length recipe.stages
    → run ≡ done_in_order recipe inputs [] (take count recipe.stages) → goes_on_after recipe inputs [] run ≡ bench recipe inputs
bench-whole recipe inputs count run all is =
    ap (goes_on_after recipe inputs []) is
    ∙ ap (λ rest. goes_on_after recipe inputs rest (done_in_order recipe inputs [] (take count recipe.stages))) (sym (drop_all count recipe.stages (omega arith)))
    ∙ sym (bench-following recipe inputs count)

-- what the bench comes to is an answer
pub bench-answer : (recipe : RecipeContents) (inputs : List (List ℕ)) (answer : AuditAnswer) → kept.IsRecipe recipe → IsInputs recipe inputs → answer ≡ bench recipe inputs
    → IsAuditAnswer answer
bench-answer recipe inputs (Completes report) is given comes = bench-report recipe inputs report (rules recipe is) given (sym comes)
bench-answer recipe inputs (Fails number fault) is given comes = tt
