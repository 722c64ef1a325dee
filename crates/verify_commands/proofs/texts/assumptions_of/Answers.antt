use Rattle.std.proofs.Common.{◌≡◌, List, IfOk, sym, subst, ◌∙◌}
use Rattle.wheeler.specs.declared.assumption.Assumption.{Assumption}
use Rattle.wheeler.proofs.RouteBack.{assumed-at, assumed-nowhere}
use Rattle.verify_commands.proofs.texts.assumptions_of.Goals as goal

pub returns-in-Some : goal.returns-in-Some
returns-in-Some c =
    subst (λ (named : List Assumption). IfOk c.assumptions_for.result (λ lines. lines ≡ named))
    (sym (assumed-at c.args.recipe.now c.args.name.now c.in-Some.index (sym c.in-Some.ensures.index))) c.assumptions_for.ensures

pub returns-in-None : goal.returns-in-None
returns-in-None c = c.new.ensures ∙ sym (assumed-nowhere c.args.recipe.now c.args.name.now (sym c.in-None.ensures.index))
