use Rattle.ddc_app.proofs.Statuses.{answers_so}
use Rattle.ddc_app.proofs.laws.help_prints_each_status.Goals as goal

pub returns : goal.returns
returns c = answers_so
