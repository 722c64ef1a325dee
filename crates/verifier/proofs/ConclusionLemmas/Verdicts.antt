-- From a report without a fault to its verdict.
use Rattle.std.proofs.Common.{◌≡◌, ℕ, Bool, true, false, if◌then◌else◌, Option, None, Some, List, [], ◌∷◌, refl, sym, subst, All}
use Rattle.std.specs.List.{AllZip}
use Rattle.std.proofs.lemmas.Bool.{and_parts}
use Rattle.std.proofs.lemmas.List.Elements.{All-cons, All-nil}
use Rattle.recipe.specs.declared.contents.RecipeContents.{RecipeContents}
use Rattle.report.specs.declared.types.CompareLine.{CompareLine}
use Rattle.report.specs.declared.types.Compared.{Compared}
use Rattle.report.specs.declared.types.Compared.TheVariants.{Equal, Differs}
use Rattle.audit_rules.specs.Bench.{all_equal, is_equal}
use Rattle.verifier.specs.declared.part.Part.{Part}
use Rattle.verifier.specs.declared.part.Verdict.{Verdict}
use Rattle.verifier.specs.declared.part.Verdict.TheVariants.{Yes, TrueButDiffers, Refuted, OutOfMemory}
use Rattle.verifier.specs.Verdicts.{Judges, true_verdict}
use Rattle.wheeler.specs.Concludes.{Concludes, ConcludesBy, ConcludesEqual}
use Rattle.wheeler.specs.Meaning.{Compiles, Prescribes}
use Rattle.verifier.specs.Conclusion.Verdicts.{Shows}

module _ (prescribes : Prescribes) (compiles : Compiles) (recipe : RecipeContents) (inputs : List (List ℕ)) where
  -- where each line says equal, each compared stage has that conclusion
  equals : (names : List (List ℕ)) (lines : List CompareLine) → all_equal lines ≡ true
      → AllZip (λ name (line : CompareLine). ConcludesBy prescribes compiles recipe inputs name line.result) names lines
      → All (ConcludesEqual prescribes compiles recipe inputs) names
  equals [] [] same each = All-nil (ConcludesEqual prescribes compiles recipe inputs)
  equals [] (line ∷ lines) same each = absurd each
  equals (name ∷ names) [] same each = absurd each
  equals (name ∷ names) (line ∷ lines) same each =
      let parts = and_parts (is_equal line.result) (all_equal lines) same in
      All-cons (ConcludesEqual prescribes compiles recipe inputs) name names (by_line line.result parts.0 each.0) (equals names lines parts.1 each.1)
    where
      by_line : (result : Compared) → is_equal result ≡ true → ConcludesBy prescribes compiles recipe inputs name result → ConcludesEqual prescribes compiles recipe inputs name
      by_line (Equal length) is shown = shown
      by_line (Differs offset ours theirs) is shown = absurd cc

  pub by-comparisons : (lines : List CompareLine) → Concludes prescribes compiles recipe inputs lines → Shows prescribes compiles recipe inputs lines (true_verdict lines)
  by-comparisons lines shown = by (all_equal lines) refl where
    by : (b : Bool) → all_equal lines ≡ b → Shows prescribes compiles recipe inputs lines (if b then Yes else TrueButDiffers)
    by true same = record { all = shown.all; each = equals recipe.compare.stages lines same shown.each }
    by false same = shown

  pub by-verdict : (fault : Option (Part × ℕ)) (lines : List CompareLine) (verdict : Verdict) → Judges fault lines verdict
      → (fault ≡ None → Shows prescribes compiles recipe inputs lines (true_verdict lines)) → Shows prescribes compiles recipe inputs lines verdict
  by-verdict fault lines (OutOfMemory stage part) judges shown = tt
  by-verdict fault lines (Refuted part place) judges shown = tt
  by-verdict None lines Yes judges shown = subst (Shows prescribes compiles recipe inputs lines) (sym judges) (shown refl)
  by-verdict (Some (part, place)) lines Yes judges shown = absurd cc
  by-verdict None lines TrueButDiffers judges shown = subst (Shows prescribes compiles recipe inputs lines) (sym judges) (shown refl)
  by-verdict (Some (part, place)) lines TrueButDiffers judges shown = absurd cc
