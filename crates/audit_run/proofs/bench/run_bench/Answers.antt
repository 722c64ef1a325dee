use Rattle.std.proofs.Common.{Ok, Err, length, sym, ap, ◌∙◌}
use Rattle.audit_rules.specs.Bench.{bench_report}
use Rattle.audit_rules.specs.declared.answer.AuditAnswer.TheVariants.{Completes}
use Rattle.audit_run.proofs.InOrder.{bench-answer, bench-whole}
use Rattle.audit_run.proofs.bench.run_bench.Goals as goal

pub returns-in_ok-report-in-Ok-clause-answer : goal.returns-in_ok-report-in-Ok-clause-answer
returns-in_ok-report-in-Ok-clause-answer c =
    ap Completes (c.in_ok-report-in-Ok.ensures ∙ ap (bench_report c.args.recipe.now c.args.inputs.now) c.as_slice.ensures)
    ∙ bench-whole c.args.recipe.now c.args.inputs.now _ (Ok c.in-Ok.done) (ap length (c.as_slice-count.ensures ∙ c.stages.ensures.value))
    (sym c.in-Ok.is ∙ c.in_ok-done.ensures.stages)

pub returns-in_ok-report-in-Ok-clause-form : goal.returns-in_ok-report-in-Ok-clause-form
returns-in_ok-report-in-Ok-clause-form c =
    bench-answer c.args.recipe.now c.args.inputs.now (Completes c.in_ok-report-in-Ok.report) c.stages.ensures.kept c.requires.given
    (returns-in_ok-report-in-Ok-clause-answer c)

pub returns-in-Err-clause-answer : goal.returns-in-Err-clause-answer
returns-in-Err-clause-answer c =
    bench-whole c.args.recipe.now c.args.inputs.now _ (Err c.in-Err.not_done) (ap length (c.as_slice-count.ensures ∙ c.stages.ensures.value))
    (sym c.in-Err.is ∙ c.in_ok-done.ensures.stages)
