use Rattle.std.proofs.Common.{◌≡◌, ◌∙◌, ◌-◌, ◌++◌, ◌∷◌, [], sym, ap, arith, append_assoc}
use Rattle.wheeler.specs.Routes.{unless_checked, route_from}
use Rattle.wheeler.proofs.RouteClosed.{route-first, route-made, route-other, read-at}
use Rattle.wheeler.proofs.routing.route_from.Goals as goal

-- the stage before the index, which is there
pub returns-in-Some : goal.returns-in-Some
returns-in-Some c =
    let stages = c.args.stages.now in
    let stage = c.index-stages-before.result in
    let name = c.loop-before.program.now in
    let at = read-at stages (c.loop-before.before - 1) c.index-stages-before.result c.index-stages-before.result
    (omega (arith, c.loop-before-test.true, c.loop-before.invariant.0)) c.index-stages-before.is in
    let here = route-made stages c.loop-before.before stage name (omega (arith, c.loop-before-test.true)) at (sym c.eq.ensures ∙ c.if-eq.true) in
    let checked = ap (λ o. name ∷ unless_checked o (route_from stages (c.loop-before.before - 1) stage.program)) c.in-Some.is in
    c.in_ok-push.ensures.ok ∙ ap (λ n. c.loop-before.names ++ n ∷ []) c.copy.ensures
    ∙ ap (λ r. c.loop-before.names ++ r) (sym (here ∙ checked)) ∙ c.loop-before.invariant.1

pub loop-before-preserved-in-None : goal.loop-before-preserved-in-None
loop-before-preserved-in-None c =
    let stages = c.args.stages.now in
    let stage = c.index-stages-before.result in
    let name = c.loop-before.program.now in
    let rest = route_from stages (c.loop-before.before - 1) stage.program in
    let at = read-at stages (c.loop-before.before - 1) c.index-stages-before.result c.index-stages-before.result
    (omega (arith, c.loop-before-test.true, c.loop-before.invariant.0)) c.index-stages-before.is in
    let here = route-made stages c.loop-before.before stage name (omega (arith, c.loop-before-test.true)) at (sym c.eq.ensures ∙ c.if-eq.true) in
    let unchecked = ap (λ o. name ∷ unless_checked o rest) c.in-None.is in (
      omega (arith, c.loop-before.invariant.0),
      ap (λ l. l ++ rest) (c.in_ok-push.ensures.ok ∙ ap (λ n. c.loop-before.names ++ n ∷ []) c.copy.ensures)
          ∙ append_assoc c.loop-before.names (name ∷ []) rest
          ∙ ap (λ r. c.loop-before.names ++ r) (sym (here ∙ unchecked)) ∙ c.loop-before.invariant.1,
    )

pub loop-before-preserved : goal.loop-before-preserved
loop-before-preserved c =
    let stages = c.args.stages.now in
    let name = c.loop-before.program.now in
    let at = read-at stages (c.loop-before.before - 1) c.index-stages-before.result c.index-stages-before.result
    (omega (arith, c.loop-before-test.true, c.loop-before.invariant.0)) c.index-stages-before.is in
    let here = route-other stages c.loop-before.before c.index-stages-before.result name (omega (arith, c.loop-before-test.true)) at
    (sym c.eq.ensures ∙ c.if-eq.false) in (
      omega (arith, c.loop-before.invariant.0),
      ap (λ r. c.loop-before.names ++ r) (sym here) ∙ c.loop-before.invariant.1,
    )

pub returns : goal.returns
returns c =
    let none : c.loop-before.before ≡ 0 = omega (arith, c.loop-before-test.false) in
    c.in_ok-push-2.ensures.ok ∙ ap (λ n. c.loop-before.names ++ n ∷ []) c.copy-2.ensures
    ∙ ap (λ r. c.loop-before.names ++ r) (sym (ap (λ n. route_from c.args.stages.now n c.loop-before.program.now) none ∙ route-first c.args.stages.now c.loop-before.program.now))
    ∙ c.loop-before.invariant.1
