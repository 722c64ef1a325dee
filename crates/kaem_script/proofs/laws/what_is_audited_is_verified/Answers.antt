use Rattle.kaem_script.proofs.OneReport.{reported_without_fault}
use Rattle.kaem_script.proofs.laws.what_is_audited_is_verified.Goals as goal

pub returns : goal.returns
returns c = reported_without_fault
