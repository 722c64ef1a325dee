-- Laws of many steps of an audit.
use Rattle.std.proofs.Common.{◌≡◌, ℕ, zero, suc, ◌+◌, List, refl, sym, ap, ◌∙◌, arith}
use Rattle.recipe.specs.declared.contents.RecipeContents.{RecipeContents}
use Rattle.audit_rules.specs.declared.answer.AuditAnswer.{AuditAnswer}
use Rattle.audit_rules.specs.Positions.{Position, Phase, On, Over, forward, forward_from, onward, step}

pub forward-sum : (recipe : RecipeContents) (inputs : List (List ℕ)) (p q : Position) (first more : ℕ)
    → forward recipe inputs p first ≡ On q → forward recipe inputs p (first + more) ≡ forward recipe inputs q more
unfolding forward
forward-sum recipe inputs p q first zero reached =
    let same : first + 0 ≡ first = omega arith in
    ap (forward recipe inputs p) same ∙ reached
forward-sum recipe inputs p q first (suc more) reached =
    let same : first + suc more ≡ suc (first + more) = omega arith in
    ap (forward recipe inputs p) same ∙ ap (λ o. onward o (step recipe inputs)) (forward-sum recipe inputs p q first more reached)

-- an audit that is over stays so
pub forward-over : (recipe : RecipeContents) (inputs : List (List ℕ)) (p : Position) (answer : AuditAnswer) (first more : ℕ)
    → forward recipe inputs p first ≡ Over answer → forward recipe inputs p (first + more) ≡ Over answer
unfolding forward
forward-over recipe inputs p answer first zero reached =
    let same : first + 0 ≡ first = omega arith in
    ap (forward recipe inputs p) same ∙ reached
forward-over recipe inputs p answer first (suc more) reached =
    let same : first + suc more ≡ suc (first + more) = omega arith in
    ap (forward recipe inputs p) same ∙ ap (λ o. onward o (step recipe inputs)) (forward-over recipe inputs p answer first more reached)

pub forward_from-none : (recipe : RecipeContents) (inputs : List (List ℕ)) (from : Phase) (count : ℕ) → count ≡ 0 → forward_from recipe inputs from count ≡ from
unfolding forward
forward_from-none recipe inputs (On p) count none = ap (forward recipe inputs p) none
forward_from-none recipe inputs (Over answer) count none = refl

pub forward_from-sum : (recipe : RecipeContents) (inputs : List (List ℕ)) (from : Phase) (first more sum : ℕ) → sum ≡ first + more
    → forward_from recipe inputs (forward_from recipe inputs from first) more ≡ forward_from recipe inputs from sum
forward_from-sum recipe inputs (Over answer) first more sum is = refl
forward_from-sum recipe inputs (On p) first more sum is = by_first (forward recipe inputs p first) refl ∙ ap (forward recipe inputs p) (sym is) where
  by_first : (o : Phase) → forward recipe inputs p first ≡ o → onward o (λ q. forward recipe inputs q more) ≡ forward recipe inputs p (first + more)
  by_first (On q) reached = sym (forward-sum recipe inputs p q first more reached)
  by_first (Over answer) reached = sym (forward-over recipe inputs p answer first more reached)
