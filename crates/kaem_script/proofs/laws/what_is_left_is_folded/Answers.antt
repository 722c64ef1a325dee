use Rattle.kaem_script.proofs.LeftByCommands.{all_ran, alone, stopped_before, stopped_here}
use Rattle.kaem_script.proofs.laws.what_is_left_is_folded.Goals as goal

pub returns-clause-alone : goal.returns-clause-alone
returns-clause-alone c = alone

pub returns-clause-stopped : goal.returns-clause-stopped
returns-clause-stopped c = stopped_here

pub returns-clause-before : goal.returns-clause-before
returns-clause-before c = stopped_before

pub returns-clause-ran : goal.returns-clause-ran
returns-clause-ran c = all_ran
