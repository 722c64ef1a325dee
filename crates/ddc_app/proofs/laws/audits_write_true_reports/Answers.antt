use Rattle.std.proofs.Common.{ap, ◌∙◌}
use Rattle.ddc_app.specs.Accepting.{audit, is_compared}
use Rattle.ddc_app.specs.Differences.{in_differences}
use Rattle.ddc_app.specs.Pausing.{in_pieces}
use Rattle.ddc_app.proofs.laws.audits_write_true_reports.Goals as goal

pub returns-clause-undivided : goal.returns-clause-undivided
returns-clause-undivided c recipe report files bytes compared =
    c.compared_reports_are_true.ensures recipe report (audit recipe report files).files (ap is_compared (c.accepted.ensures recipe report files bytes compared) ∙ compared)

pub returns-clause-pieces : goal.returns-clause-pieces
returns-clause-pieces c recipe save report steps counts files words each bytes compared =
    c.compared_reports_are_true.ensures recipe report (in_pieces recipe save report steps counts files).files
    (ap is_compared (c.pauses.ensures.accepted recipe save report steps counts files words each bytes compared) ∙ compared)

pub returns-clause-differences : goal.returns-clause-differences
returns-clause-differences c recipe base patch report steps counts files words each bytes compared =
    c.compared_reports_are_true.ensures recipe report (in_differences recipe base patch report steps counts files).files
    (ap is_compared (c.differences.ensures.accepted recipe base patch report steps counts files words each bytes compared) ∙ compared)
