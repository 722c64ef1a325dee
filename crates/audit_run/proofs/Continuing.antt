-- A resumed audit comes to the answer of its position's continuation.
use Rattle.std.proofs.Common.{◌≡◌, ℕ, List, Some, sym, ap, ◌∙◌}
use Rattle.recipe.specs.Kept.{IsRecipe}
use Rattle.recipe.specs.declared.contents.RecipeContents.{RecipeContents}
use Rattle.audit_rules.specs.Positions.{Position, Phase, On, Over, continue, finish, forward}
use Rattle.audit_rules.specs.Valid.{IsPosition}
use Rattle.audit_rules.proofs.Closing.{keeps-answer}
use Rattle.audit_rules.proofs.Rules.{rules}
use Rattle.audit_run.specs.Advances.{Advances, progress_of}
use Rattle.audit_run.specs.Saved.{phase_at}
use Rattle.audit_run.specs.declared.phase.Progress.{Progress}
use Rattle.audit_run.specs.declared.phase.Progress.TheVariants as parsed

module _ (recipe : RecipeContents) (inputs : List (List ℕ)) (p : Position) (is : IsRecipe recipe) (valid : IsPosition recipe p) where
  after : (count : ℕ) (now : Phase) → forward recipe inputs p count ≡ now → finish recipe inputs now ≡ continue recipe inputs p
  after count now leads = ap (finish recipe inputs) (sym leads) ∙ keeps-answer recipe inputs p count (rules recipe is) valid

  answered : (most : ℕ) (answer : Progress) (now : Phase) → (Some now ≡ Some (forward recipe inputs p most)) × (answer ≡ progress_of (forward recipe inputs p most))
      → finish recipe inputs now ≡ continue recipe inputs p
  answered most answer now a =
      let some : Some now ≡ Some (forward recipe inputs p most) = a.0 in
      let same : forward recipe inputs p most ≡ now = cc in
      after most now same

  pub continues : (most : ℕ) (answer : Progress) (now : Phase) → Advances (phase_at recipe inputs p) most answer (Some now)
      → finish recipe inputs now ≡ continue recipe inputs p
  continues most parsed.OutOfMemory (On q) a = after a.count (On q) a.reached
  continues most parsed.OutOfMemory (Over answer) a = absurd a
  continues most parsed.Equal now a = answered most parsed.Equal now a
  continues most parsed.Differs now a = answered most parsed.Differs now a
  continues most parsed.Paused now a = answered most parsed.Paused now a
  continues most (parsed.RunFailed stage cause step) now a = answered most (parsed.RunFailed stage cause step) now a
  continues most (parsed.CheckFailed stage cause) now a = answered most (parsed.CheckFailed stage cause) now a
