-- Lines that are made in order.
use Rattle.std.proofs.Common.{◌≡◌, ℕ, ◌≤◌, List, [], ◌∷◌, ◌++◌, length, drop, min, refl, sym, ap, ◌∙◌, arith}
use Rattle.std.proofs.lemmas.List.{append-nil, length-drop}
use Rattle.recipe.specs.declared.contents.RecipeContents.{RecipeContents}
use Rattle.recipe.specs.declared.parts.Input.{Input}
use Rattle.recipe.specs.declared.parts.Stage.{Stage}
use Rattle.report.specs.declared.types.InputLine.{InputLine}
use Rattle.report.specs.declared.types.StageLine.{StageLine}
use Rattle.audit_rules.specs.declared.answer.Finished.{Finished}
use Rattle.audit_rules.specs.Bench.{input_lines, stage_lines}

ended-inputs : (inputs : List Input) (given : List (List ℕ)) → min (length inputs) (length given) ≡ 0 → input_lines inputs given ≡ []
ended-inputs [] given short = refl
ended-inputs (input ∷ inputs) [] short = refl
ended-inputs (input ∷ inputs) (bytes ∷ given) short = absurd (omega (arith, short))

ended-stages : (recipe : RecipeContents) (stages : List Stage) (done : List Finished) → min (length stages) (length done) ≡ 0 → stage_lines recipe stages done ≡ []
ended-stages recipe [] done short = refl
ended-stages recipe (stage ∷ stages) [] short = refl
ended-stages recipe (stage ∷ stages) (f ∷ done) short = absurd (omega (arith, short))

-- all lines are made where one of the lists has ended
pub inputs-made : (inputs : List Input) (given : List (List ℕ)) (index : ℕ) (lines whole : List InputLine) → min (length inputs) (length given) ≤ index
    → lines ++ input_lines (drop index inputs) (drop index given) ≡ whole → lines ≡ whole
inputs-made inputs given index lines whole past made =
    sym (append-nil lines)
    ∙ ap (λ rest. lines ++ rest) (sym (ended-inputs (drop index inputs) (drop index given) (omega (arith, past, length-drop index inputs, length-drop index given))))
    ∙ made

pub stages-made : (recipe : RecipeContents) (stages : List Stage) (done : List Finished) (index : ℕ) (lines whole : List StageLine) → min (length stages) (length done) ≤ index
    → lines ++ stage_lines recipe (drop index stages) (drop index done) ≡ whole → lines ≡ whole
stages-made recipe stages done index lines whole past made =
    sym (append-nil lines)
    ∙ ap (λ rest. lines ++ rest) (sym (ended-stages recipe (drop index stages) (drop index done) (omega (arith, past, length-drop index stages, length-drop index done))))
    ∙ made
