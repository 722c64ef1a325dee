-- A stage that is not done is one of those that were left.
use Rattle.std.proofs.Common.{◌≡◌, ℕ, suc, ◌+◌, ◌≤◌, Result, Ok, Err, List, [], ◌∷◌, ◌++◌, length, arith}
use Rattle.std.proofs.lemmas.List.{length-append}
use Rattle.recipe.specs.declared.contents.RecipeContents.{RecipeContents}
use Rattle.recipe.specs.declared.parts.Stage.{Stage}
use Rattle.audit_rules.specs.Bench.{after_stage, bench_from}
use Rattle.audit_rules.specs.Stages.{stage_result}
use Rattle.audit_rules.specs.declared.answer.AuditAnswer.TheVariants.{Fails}
use Rattle.audit_rules.specs.declared.answer.StageFault.{StageFault}
use Rattle.audit_rules.specs.declared.answer.Finished.{Finished}

pub record IsNumbered (done : List Finished) (stages : List Stage) (number : ℕ) : Type 0 where
  pub first : length done + 1 ≤ number
  pub last : number ≤ length done + length stages

pub numbered : (recipe : RecipeContents) (inputs : List (List ℕ)) (done : List Finished) (stages : List Stage) (number : ℕ) (fault : StageFault)
    → bench_from recipe inputs done stages ≡ Fails number fault → IsNumbered done stages number
numbered recipe inputs done [] number fault is = absurd cc
numbered recipe inputs done (stage ∷ stages) number fault is =
    go (stage_result recipe inputs done stage) (λ f. numbered recipe inputs (done ++ f ∷ []) stages number fault) is where
      go : (result : Result Finished StageFault)
          → ((f : Finished) → bench_from recipe inputs (done ++ f ∷ []) stages ≡ Fails number fault → IsNumbered (done ++ f ∷ []) stages number)
          → after_stage (suc (length done)) result (λ f. bench_from recipe inputs (done ++ f ∷ []) stages) ≡ Fails number fault
          → IsNumbered done (stage ∷ stages) number
      go (Err why) later is =
          let same : suc (length done) ≡ number = cc in
          record { first = omega arith; last = omega arith }
      go (Ok f) later is =
          let rest = later f is in
          let more = length-append done (f ∷ []) in
          let first = rest.first in
          let last = rest.last in
          record { first = omega arith; last = omega arith }
