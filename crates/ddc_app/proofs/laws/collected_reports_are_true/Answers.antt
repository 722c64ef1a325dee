use Rattle.ddc_app.proofs.Collecting.{collected-told, collected-true}
use Rattle.ddc_app.proofs.laws.collected_reports_are_true.Goals as goal

pub returns-clause-is_true : goal.returns-clause-is_true
returns-clause-is_true c recipe report files collected =
    collected-true recipe report files collected c.a_recipe_that_reads_keeps_the_rules.ensures c.no_fault_is_every_word_true.ensures c.one_report.ensures

pub returns-clause-told : goal.returns-clause-told
returns-clause-told c recipe report files collected =
    collected-told recipe report files collected c.a_recipe_that_reads_keeps_the_rules.ensures c.no_fault_is_every_word_true.ensures c.one_report.ensures
