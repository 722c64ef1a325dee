-- The laws of positions over a recipe that keeps its rules.
use Rattle.std.proofs.Common.{◌≡◌, ℕ, ◌+◌, ◌-◌, ◌*◌, ◌≤◌, ◌^◌, List, [], ◌∷◌, length, refl, sym, ap, ◌∙◌, subst, arith, All}
use Rattle.std.proofs.lemmas.List.{length-drop}
use Rattle.std.proofs.lemmas.List.Elements.{All-drop, All-head, All-tail, All-weaker}
use Rattle.ddc_base.specs.Limits.{most_steps}
use Rattle.recipe.specs.declared.contents.RecipeContents.{RecipeContents}
use Rattle.recipe.specs.declared.parts.Stage.{Stage}
use Rattle.audit_rules.proofs.Rules as kept
use Rattle.report.specs.Reports.{IsReport}
use Rattle.report.specs.declared.types.Report.{Report}
use Rattle.audit_rules.specs.declared.answer.AuditAnswer.{AuditAnswer}
use Rattle.audit_rules.specs.declared.answer.AuditAnswer.TheVariants.{Completes}
use Rattle.audit_rules.specs.Bench.{bench}
use Rattle.audit_rules.specs.Positions.{Position, Phase, On, Over, beginning, continue, finish, forward, forward_from, position, todo}
use Rattle.audit_rules.specs.Valid.{IsAuditAnswer, IsAt, IsInputs, IsPosition, IsPhase, limits}
use Rattle.audit_rules.proofs.Continues.{AllMayStep, IsOnPosition, enter-position, forward-continue, position-bench}
use Rattle.audit_rules.proofs.Enough.{enough}
use Rattle.audit_rules.proofs.Here.{IsHere}
use Rattle.audit_rules.proofs.ValidPositions.{beginning-phase, forward-phase, from-phase}

pub may-step : (recipe : RecipeContents) → kept.IsRecipe recipe → AllMayStep recipe
may-step recipe is = All-weaker kept.IsStage (λ s. 1 ≤ s.steps) (λ s rules. rules.some_steps) recipe.stages is.stages

here : (recipe : RecipeContents) (p : Position) (stage : Stage) (stages : List Stage) → IsAt recipe p stage stages → IsHere recipe p stage stages
here recipe p stage stages ok = record { left = ok.left; within = ok.within }

pub keeps-answer : (recipe : RecipeContents) (inputs : List (List ℕ)) (p : Position) (count : ℕ) → kept.IsRecipe recipe → IsPosition recipe p
    → finish recipe inputs (forward recipe inputs p count) ≡ continue recipe inputs p
keeps-answer recipe inputs p count is (stage, stages, ok) =
    (forward-continue recipe (may-step recipe is) inputs p (stage, stages, here recipe p stage stages ok) count).0

pub enough-over : (recipe : RecipeContents) (inputs : List (List ℕ)) (p : Position) (count : ℕ) → kept.IsRecipe recipe → IsPosition recipe p
    → limits (todo recipe p.done) ≤ p.at.steps + count → forward recipe inputs p count ≡ Over (continue recipe inputs p)
enough-over recipe inputs p count is (stage, stages, ok) few =
    let over = enough recipe (may-step recipe is) inputs count p stage stages (here recipe p stage stages ok) (subst (λ (s : List Stage). limits s ≤ p.at.steps + count) ok.left few) in
    over.1 ∙ ap Over (sym (ap (finish recipe inputs) over.1) ∙ keeps-answer recipe inputs p count is (stage, stages, ok))

-- all limits together
limited : (stages : List Stage) → All kept.IsStage stages → limits stages ≤ length stages * most_steps
limited [] rules = omega arith
limited (stage ∷ stages) rules =
    let rest = limited stages (All-tail kept.IsStage stage stages rules) in
    let first = (All-head kept.IsStage stage stages rules).few_steps in
    omega arith

all-few : (recipe : RecipeContents) (p : Position) → kept.IsRecipe recipe → limits (todo recipe p.done) ≤ p.at.steps + (2 ^ 64 - 1)
all-few recipe p is =
    let rest : All kept.IsStage (todo recipe p.done) = All-drop kept.IsStage (length p.done) recipe.stages is.stages in
    let most = limited (todo recipe p.done) rest in
    let count = length-drop (length p.done) recipe.stages in
    let few = is.few_stages in
    omega arith

pub advance-enough : (recipe : RecipeContents) (inputs : List (List ℕ)) (p : Position) → kept.IsRecipe recipe → IsPosition recipe p
    → forward recipe inputs p (2 ^ 64 - 1) ≡ Over (continue recipe inputs p)
advance-enough recipe inputs p is ok = enough-over recipe inputs p (2 ^ 64 - 1) is ok (all-few recipe p is)

pub beginning-enough : (recipe : RecipeContents) (inputs : List (List ℕ)) → kept.IsRecipe recipe → position recipe inputs (2 ^ 64 - 1) ≡ Over (bench recipe inputs)
beginning-enough recipe inputs is =
    by_position (beginning recipe inputs) (enter-position recipe (may-step recipe is) inputs [] recipe.stages refl) (position-bench recipe (may-step recipe is) inputs (2 ^ 64 - 1)) where
      over : (o : Phase) (answer : AuditAnswer) → o ≡ Over answer → finish recipe inputs o ≡ bench recipe inputs → o ≡ Over (bench recipe inputs)
      over o answer same meant = same ∙ ap Over (sym (ap (finish recipe inputs) same) ∙ meant)

      by_position : (o : Phase) → IsOnPosition recipe o → finish recipe inputs (forward_from recipe inputs o (2 ^ 64 - 1)) ≡ bench recipe inputs
          → forward_from recipe inputs o (2 ^ 64 - 1) ≡ Over (bench recipe inputs)
      by_position (Over answer) ok meant = ap Over meant
      by_position (On p) (stage, stages, ok) meant =
          let over_by = enough recipe (may-step recipe is) inputs (2 ^ 64 - 1) p stage stages ok
          (subst (λ (s : List Stage). limits s ≤ p.at.steps + (2 ^ 64 - 1)) ok.left (all-few recipe p is)) in
          over (forward recipe inputs p (2 ^ 64 - 1)) over_by.0 over_by.1 meant

pub bench-report : (recipe : RecipeContents) (inputs : List (List ℕ)) (report : Report) → kept.IsRecipe recipe → IsInputs recipe inputs
    → bench recipe inputs ≡ Completes report → IsReport report
bench-report recipe inputs report is given comes =
    subst IsAuditAnswer comes (subst (IsPhase recipe) (beginning-enough recipe inputs is)
    (from-phase recipe is inputs given (beginning recipe inputs) (beginning-phase recipe is inputs given) (2 ^ 64 - 1)))

pub position-report : (recipe : RecipeContents) (inputs : List (List ℕ)) (p : Position) (report : Report) → kept.IsRecipe recipe → IsInputs recipe inputs
    → IsPosition recipe p → continue recipe inputs p ≡ Completes report → IsReport report
position-report recipe inputs p report is given ok comes =
    subst IsAuditAnswer comes (subst (IsPhase recipe) (advance-enough recipe inputs p is ok) (forward-phase recipe is inputs given p ok (2 ^ 64 - 1)))
