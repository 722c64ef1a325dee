use Rattle.app_tests.specs.Copying.{copied_twice}
use Rattle.command_plan.proofs.Obtaining.{goes_on_with}
use Rattle.app_tests.proofs.copying.copy_twice.Goals as goal

pub returns : goal.returns
unfolding copied_twice
returns g c = goes_on_with c.in_ok-content.ensures.obtained c.keep_twice.ensures
