use Rattle.std.proofs.Common.{ap}
use Rattle.command_plan.specs.Plan.{Outcome}
use Rattle.ddc_app.proofs.Joining.{is_yes, says}
use Rattle.ddc_app.proofs.laws.chains_verified.Goals as goal

pub returns-clause-yes : goal.returns-clause-yes
returns-clause-yes c = is_yes

pub returns-clause-text : goal.returns-clause-text
returns-clause-text c = λ list files all. ap (λ (o : Outcome). o.text) (says list files all)
