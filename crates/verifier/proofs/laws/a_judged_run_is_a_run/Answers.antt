use Rattle.verifier.proofs.DoneStages.{judged-run, run-judged}
use Rattle.verifier.proofs.laws.a_judged_run_is_a_run.Goals as goal

pub returns : goal.returns
returns c = λ program setting limit step world. (judged-run program setting limit step world, λ run. run-judged program setting limit step world run.0 run.1 run.2)
