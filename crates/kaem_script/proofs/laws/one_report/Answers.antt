use Rattle.std.proofs.Common.{◌^◌, arith}
use Rattle.ddc_base.specs.Limits.{most_steps}
use Rattle.kaem_script.proofs.OneReport.{no_fault_reports, reported_without_fault}
use Rattle.kaem_script.proofs.laws.one_report.Goals as goal

pub returns : goal.returns
returns c = λ script listed report. (no_fault_reports script listed report, reported_without_fault most_steps script listed report (omega arith))
