-- Reading a report, and the status of its comparisons. docs/reference/command-line.md says the same for people.
use Rattle.std.specs.Prelude.{ℕ, List, ◌++◌, if◌then◌else◌}
use Rattle.ddc_base.specs.Limits.{most_report}
use Rattle.report.specs.Reading.{report_of}
use Rattle.report.specs.declared.types.CompareLine.{CompareLine}
use Rattle.report.specs.declared.types.Report.{Report}
use Rattle.audit_rules.specs.Bench.{all_equal}
use Rattle.command_plan.specs.declared.status.Status.{Status}
use Rattle.command_plan.specs.declared.status.Status.TheVariants as status
use Rattle.command_plan.specs.Plan.{Plan, answers, needs, unless_refused}
use Rattle.command_plan.specs.Texts.{report_line}

-- the plan needs a report of at most 1,073,741,824 bytes, and reads it; the answer to any other file stands after `prefix`
abbrev pub needs_report_after : List ℕ → List ℕ → (Report → Plan) → Plan
needs_report_after prefix file next =
    needs file most_report (λ bytes. unless_refused (report_of bytes) (λ number. answers status.ReportRefused (prefix ++ report_line number)) next)

abbrev pub needs_report : List ℕ → (Report → Plan) → Plan
needs_report file next =
    needs file most_report (λ bytes. unless_refused (report_of bytes) (λ number. answers status.ReportRefused (report_line number)) next)

-- the status of comparisons: `Yes` if each is equal, else `Differs`
abbrev pub compared_status : List CompareLine → Status
compared_status lines = if all_equal lines then status.Yes else status.Differs
