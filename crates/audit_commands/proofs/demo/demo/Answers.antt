use Rattle.command_plan.proofs.Obtaining.{ends_before, ends_with, goes_on_with}
use Rattle.command_plan.proofs.Performing.{says}
use Rattle.audit_commands.specs.Demo.{demo_files, generated_bytes}
use Rattle.audit_commands.proofs.Demonstrating.{of_files}
use Rattle.audit_commands.proofs.demo.demo.Goals as goal

pub returns-in_err-program : goal.returns-in_err-program
unfolding demo_files
returns-in_err-program g c = ends_with c.from_residual.ensures.1 (ends_before (rw c.of.ensures at c.in_err-program.ensures.obtained))

pub returns-in_err-source : goal.returns-in_err-source
unfolding demo_files
returns-in_err-source g c = ends_with c.from_residual-in_err-source.ensures.1 (goes_on_with (rw c.of.ensures at c.in_ok-program.ensures.obtained) (ends_before (rw c.of-2.ensures at c.in_err-source.ensures.obtained)))

pub returns-in_err-recipe : goal.returns-in_err-recipe
unfolding demo_files
returns-in_err-recipe g c =
    ends_with c.from_residual-in_err-recipe.ensures.1 (goes_on_with (rw c.of.ensures at c.in_ok-program.ensures.obtained) (goes_on_with (rw c.of-2.ensures at c.in_ok-source.ensures.obtained) (ends_before (c.in_err-recipe.ensures _))))

pub returns : goal.returns
unfolding demo_files
returns g c =
    goes_on_with (rw c.of.ensures at c.in_ok-program.ensures.obtained) (goes_on_with (rw c.of-2.ensures at c.in_ok-source.ensures.obtained) (goes_on_with (c.in_ok-recipe.ensures _) (says _ _ _ (of_files c.args.size c.in_ok-recipe.recipe _ _ _ _ (generated_bytes c.args.size) _ c.as_slice.ensures c.as_slice-2.ensures c.audit.ensures))))
