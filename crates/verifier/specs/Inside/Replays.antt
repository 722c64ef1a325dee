-- The result of the replay of all stages. No promise depends on its being read.
use Rattle.std.specs.Prelude.{◌≡◌, ℕ, Option, Some, Result, Ok, Err, List, []}
use Rattle.recipe.specs.declared.contents.RecipeContents.{RecipeContents}
use Rattle.report.specs.declared.types.StageLine.{StageLine}
use Rattle.audit_rules.specs.Contents.{Contents}
use Rattle.verifier.specs.declared.part.Part.{Part}
use Rattle.verifier.specs.declared.part.Verdict.{Verdict}
use Rattle.verifier.specs.declared.part.Verdict.TheVariants.{Yes, TrueButDiffers, Refuted, OutOfMemory}
use Rattle.verifier.specs.Faults.{stages_fault}
use Rattle.verifier.specs.Verdicts.{IsAtPart}

-- the first fault of all stages, and then of the last part
abbrev pub whole_fault : RecipeContents → List (List ℕ) → List StageLine → (Contents → Option (Part × ℕ)) → Option (Part × ℕ)
whole_fault recipe inputs lines last = stages_fault recipe last (record { inputs = inputs; artefacts = [] }) recipe.stages lines

-- whatever the last part is: only it is left, or a stage has the first fault, or memory ran out at a stage
abbrev pub Replays : RecipeContents → List (List ℕ) → List StageLine → Result (List (List ℕ)) Verdict → Type 0
Replays recipe inputs lines (Ok artefacts) =
    (last : Contents → Option (Part × ℕ)) → whole_fault recipe inputs lines last ≡ last (record { inputs = inputs; artefacts = artefacts })
Replays recipe inputs lines (Err (Refuted part place)) = (last : Contents → Option (Part × ℕ)) → whole_fault recipe inputs lines last ≡ Some (part, place)
Replays recipe inputs lines (Err (OutOfMemory stage part)) = IsAtPart recipe inputs lines stage part
Replays recipe inputs lines (Err Yes) = ⊥
Replays recipe inputs lines (Err TrueButDiffers) = ⊥
