use Rattle.save_format.specs.Seen.{save_view}
use Rattle.audit_run.proofs.DeltaLemmas.Judging.{goes_after}
use Rattle.audit_run.proofs.delta.reading.judged.Goals as goal

pub returns-clause-resumes : goal.returns-clause-resumes
returns-clause-resumes c =
    goes_after c.args.recipe.now c.args.inputs.now c.args.base.now c.args.text.now c.in_ok-judge_base.ensures.0 (save_view c.in_ok-known.known) c.relative.result c.in_ok-judge_base.ensures.1
    c.in_ok-known.ensures.parsed c.in_ok-known.ensures.text c.relative.ensures.goes
