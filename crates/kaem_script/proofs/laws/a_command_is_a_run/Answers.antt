use Rattle.kaem_script.proofs.Runs.{is-command, is-run}
use Rattle.kaem_script.proofs.laws.a_command_is_a_run.Goals as goal

pub returns : goal.returns
returns c = record { runs = is-run; found = is-command }
