use Rattle.command_plan.proofs.Performing.{goes_on_after_save}
use Rattle.app_tests.proofs.copying.save_both.Goals as goal

pub returns : goal.returns
returns g c = goes_on_after_save _ _ _ _ _ _ _ _ (rw c.as_slice.ensures at c.in_ok-store.ensures) (rw c.as_slice-2.ensures at c.keep.ensures)
