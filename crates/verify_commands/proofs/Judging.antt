-- What is said of a report, from the verdict on it.
use Rattle.std.proofs.Common.{◌≡◌, ℕ, Bool, true, false, if◌then◌else◌, List, Option, Some, None, Result, subst}
use Rattle.report.specs.declared.types.CompareLine.{CompareLine}
use Rattle.audit_rules.specs.Bench.{all_equal}
use Rattle.verifier.specs.declared.part.Part.{Part}
use Rattle.verifier.specs.declared.part.Verdict.TheVariants as verdict
use Rattle.verifier.specs.Verdicts.{Judges}
use Rattle.command_plan.specs.declared.answer.Answer.{Answer}
use Rattle.command_plan.specs.declared.stop.Stop.{Stop}
use Rattle.command_plan.specs.declared.status.Status.TheVariants.{Refuted}
use Rattle.command_plan.specs.Plan.{answers}
use Rattle.command_plan.specs.Steps.{Says}
use Rattle.verify_commands.specs.Texts.{refuted_line}
use Rattle.verify_commands.specs.Verify.{judged_with}

module _ (text : List ℕ) (lines : List CompareLine) (result : Result Answer Stop) where
  -- no fault is told as a yes, or as a difference
  pub no_fault_equal : (fault : Option (Part × ℕ)) → Judges fault lines verdict.Yes → Says (judged_with text lines None) result → Says (judged_with text lines fault) result
  no_fault_equal None is answered = answered
  no_fault_equal (Some (part, place)) is answered = absurd cc

  pub no_fault_differs : (fault : Option (Part × ℕ)) → Judges fault lines verdict.TrueButDiffers → Says (judged_with text lines None) result
      → Says (judged_with text lines fault) result
  no_fault_differs None is answered = answered
  no_fault_differs (Some (part, place)) is answered = absurd cc

  never_true : (b : Bool) (part : Part) (place : ℕ) → verdict.Refuted part place ≡ (if b then verdict.Yes else verdict.TrueButDiffers) → ⊥
  never_true true part place is = cc
  never_true false part place is = cc

  pub fault : (found : Option (Part × ℕ)) (part : Part) (place : ℕ) → Judges found lines (verdict.Refuted part place)
      → Says (answers Refuted (refuted_line part place)) result → Says (judged_with text lines found) result
  fault None part place is answered = absurd (never_true (all_equal lines) part place is)
  fault (Some (first, at)) part place is answered =
      let part_is : part ≡ first = cc in
      let place_is : place ≡ at = cc in
      subst (λ p. Says (answers Refuted (refuted_line p at)) result) part_is (subst (λ n. Says (answers Refuted (refuted_line part n)) result) place_is answered)
