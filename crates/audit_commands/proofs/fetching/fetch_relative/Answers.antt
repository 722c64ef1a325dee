use Rattle.std.proofs.Common.{refl}
use Rattle.command_plan.proofs.Obtaining.{and_then, leads, stops_before, stops_with}
use Rattle.audit_commands.proofs.fetching.fetch_relative.Goals as goal

pub returns-in_err-recipe : goal.returns-in_err-recipe
returns-in_err-recipe g c = stops_with c.from_residual.ensures.1 (stops_before c.in_err-recipe.ensures)

pub returns-in_err-both_apart : goal.returns-in_err-both_apart
returns-in_err-both_apart g c = stops_with c.from_residual-in_err-both_apart.ensures.1 (and_then c.in_ok-recipe.ensures (stops_before (c.in_err-both_apart.ensures _)))

pub returns-in_err-apart : goal.returns-in_err-apart
returns-in_err-apart g c =
    stops_with c.from_residual-in_err-apart.ensures.1 (and_then c.in_ok-recipe.ensures (and_then (c.in_ok-both_apart.ensures _) (stops_before (c.in_err-apart.ensures _))))

pub returns : goal.returns
returns g c =
    and_then c.in_ok-recipe.ensures (and_then (c.in_ok-both_apart.ensures _) (and_then (c.in_ok-apart.ensures _) (leads _ _ c.in_ok-recipe.recipe (λ next. refl))))
