use Rattle.stage_commands.proofs.CheckedRun.{run_is_reported}
use Rattle.stage_commands.proofs.laws.checked_pieces_are_the_run.Goals as goal

pub returns : goal.returns
returns c = λ recipe stage prefix count files. run_is_reported files recipe stage prefix count
