use Rattle.ddc_app.proofs.Recollecting.{true-collected}
use Rattle.ddc_app.proofs.laws.true_reports_are_collected.Goals as goal

pub returns : goal.returns
returns c recipe report files bytes compared =
    true-collected recipe report files c.a_recipe_that_reads_keeps_the_rules.ensures c.no_fault_is_every_word_true.ensures c.one_report.ensures bytes compared
