use Rattle.guest_run.proofs.RunsByAct.{by_act, runs-stand}
use Rattle.guest_run.proofs.laws.runs_without_atomics_stand.Goals as goal

pub returns-clause-all : goal.returns-clause-all
returns-clause-all c = by_act

pub returns-clause-without : goal.returns-clause-without
returns-clause-without c = runs-stand
