use Rattle.std.proofs.Common.{◌≡◌, ◌-◌, length, true, false, arith, sym, ap, ◌∙◌}
use Rattle.std.specs.Prelude.{slice_get}
use Rattle.wheeler.proofs.RouteClosed.{read-at}
use Rattle.audit_chain.specs.Rests.Walk.{meets, walk_from}
use Rattle.audit_chain.proofs.RestsLemmas.Least.{walk-first, walk-step}
use Rattle.audit_chain.proofs.rests.walking.walk.Goals as goal

pub loop-before-preserved-in-Continue-branch-2 : goal.loop-before-preserved-in-Continue-branch-2
loop-before-preserved-in-Continue-branch-2 c =
    let recipe = c.args.recipe.now in
    let x = c.index-stages-before.result in
    let shown = c.as_slice-stages.ensures ∙ c.stages.ensures.value in
    let at = read-at c.as_slice-stages.result.now (c.loop-before.before - 1) x x
    (omega (arith, c.loop-before-test.true, c.loop-before.invariant.0, ap length shown)) c.index-stages-before.is in
    let met = sym (c.meets.ensures ∙ ap (λ l. meets l x.name) c.as_slice.ensures) ∙ c.if-meets.true in (
      omega (arith, c.loop-before.invariant.0),
      ap (walk_from recipe (c.loop-before.before - 1)) c.in_ok-push_parts.ensures
          ∙ sym (walk-step recipe c.loop-before.before c.loop-before.parts x true (omega (arith, c.loop-before-test.true)) (sym (ap (λ l. slice_get l (c.loop-before.before - 1)) shown) ∙ at) met)
          ∙ c.loop-before.invariant.1,
    )

pub loop-before-preserved : goal.loop-before-preserved
loop-before-preserved c =
    let recipe = c.args.recipe.now in
    let x = c.index-stages-before.result in
    let shown = c.as_slice-stages.ensures ∙ c.stages.ensures.value in
    let at = read-at c.as_slice-stages.result.now (c.loop-before.before - 1) x x
    (omega (arith, c.loop-before-test.true, c.loop-before.invariant.0, ap length shown)) c.index-stages-before.is in
    let met = sym (c.meets.ensures ∙ ap (λ l. meets l x.name) c.as_slice.ensures) ∙ c.if-meets.false in (
      omega (arith, c.loop-before.invariant.0),
      sym (walk-step recipe c.loop-before.before c.loop-before.parts x false (omega (arith, c.loop-before-test.true)) (sym (ap (λ l. slice_get l (c.loop-before.before - 1)) shown) ∙ at) met)
          ∙ c.loop-before.invariant.1,
    )

pub returns : goal.returns
returns c =
    let none : c.loop-before.before ≡ 0 = omega (arith, c.loop-before-test.false) in
    sym (walk-first c.args.recipe.now c.loop-before.parts) ∙ ap (λ n. walk_from c.args.recipe.now n c.loop-before.parts) (sym none) ∙ c.loop-before.invariant.1
