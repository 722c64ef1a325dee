use Rattle.std.proofs.Common.{refl}
use Rattle.command_plan.proofs.Obtaining.{and_then, leads, stops_before, stops_with, wants_at_once}
use Rattle.verify_commands.specs.Chain.{needs_audit}
use Rattle.verify_commands.proofs.chain.verify_audit.Goals as goal

pub returns-in_err-two_files : goal.returns-in_err-two_files
unfolding needs_audit
returns-in_err-two_files g c = stops_with c.from_residual.ensures.1 (stops_before (c.in_err-two_files.ensures _))

pub returns-in_err-prefix : goal.returns-in_err-prefix
unfolding needs_audit
returns-in_err-prefix g c = stops_with c.from_residual-in_err-prefix.ensures.1 (and_then (c.in_ok-two_files.ensures _) (wants_at_once _ _))

pub returns-in_err-recipe : goal.returns-in_err-recipe
unfolding needs_audit
returns-in_err-recipe g c =
    stops_with c.from_residual-in_err-recipe.ensures.1
    (and_then (c.in_ok-two_files.ensures _) (stops_before (rw (c.name.ensures, c.as_slice.ensures, c.in_ok-prefix.ensures) at c.in_err-recipe.ensures)))

pub returns-in_err-apart : goal.returns-in_err-apart
unfolding needs_audit
returns-in_err-apart g c =
    stops_with c.from_residual-in_err-apart.ensures.1
    (and_then (c.in_ok-two_files.ensures _) (and_then (rw (c.name.ensures, c.as_slice.ensures, c.in_ok-prefix.ensures) at c.in_ok-recipe.ensures)
    (stops_before ((rw c.name-2.ensures at c.in_err-apart.ensures) _))))

pub returns-in_err-report : goal.returns-in_err-report
unfolding needs_audit
returns-in_err-report g c =
    stops_with c.from_residual-in_err-report.ensures.1
    (and_then (c.in_ok-two_files.ensures _) (and_then (rw (c.name.ensures, c.as_slice.ensures, c.in_ok-prefix.ensures) at c.in_ok-recipe.ensures)
    (and_then ((rw c.name-2.ensures at c.in_ok-apart.ensures) _)
    (stops_before (rw (c.name-3.ensures, c.as_slice-2.ensures, c.in_ok-prefix.ensures) at c.in_err-report.ensures.obtained)))))

pub returns-in_err-inputs : goal.returns-in_err-inputs
unfolding needs_audit
returns-in_err-inputs g c =
    stops_with c.from_residual-in_err-inputs.ensures.1
    (and_then (c.in_ok-two_files.ensures _) (and_then (rw (c.name.ensures, c.as_slice.ensures, c.in_ok-prefix.ensures) at c.in_ok-recipe.ensures)
    (and_then ((rw c.name-2.ensures at c.in_ok-apart.ensures) _)
    (and_then (rw (c.name-3.ensures, c.as_slice-2.ensures, c.in_ok-prefix.ensures) at c.in_ok-report.ensures.obtained)
    (stops_before c.in_err-inputs.ensures.obtained)))))

pub returns-in_err-judge : goal.returns-in_err-judge
unfolding needs_audit
returns-in_err-judge g c =
    stops_with c.from_residual-in_err-judge.ensures.1
    (and_then (c.in_ok-two_files.ensures _) (and_then (rw (c.name.ensures, c.as_slice.ensures, c.in_ok-prefix.ensures) at c.in_ok-recipe.ensures)
    (and_then ((rw c.name-2.ensures at c.in_ok-apart.ensures) _)
    (and_then (rw (c.name-3.ensures, c.as_slice-2.ensures, c.in_ok-prefix.ensures) at c.in_ok-report.ensures.obtained)
    (and_then c.in_ok-inputs.ensures.obtained
    (stops_before ((rw (c.as_slice-3.ensures, c.in_ok-prefix.ensures) at c.in_err-judge.ensures) _)))))))

pub returns : goal.returns
unfolding needs_audit
returns g c =
    and_then (c.in_ok-two_files.ensures _) (and_then (rw (c.name.ensures, c.as_slice.ensures, c.in_ok-prefix.ensures) at c.in_ok-recipe.ensures)
    (and_then ((rw c.name-2.ensures at c.in_ok-apart.ensures) _)
    (and_then (rw (c.name-3.ensures, c.as_slice-2.ensures, c.in_ok-prefix.ensures) at c.in_ok-report.ensures.obtained)
    (and_then c.in_ok-inputs.ensures.obtained
    (and_then ((rw (c.as_slice-3.ensures, c.in_ok-prefix.ensures) at c.in_ok-judge.ensures) _) (leads _ _ _ (λ next. refl)))))))
