use Rattle.std.proofs.lemmas.List.Elements.{All-head}
use Rattle.ddc_app.specs.Pausing.{IsStepCount}
use Rattle.ddc_app.proofs.Differing.{accepted, same}
use Rattle.ddc_app.proofs.laws.differences.Goals as goal

pub returns-clause-same : goal.returns-clause-same
returns-clause-same c = λ recipe base patch report steps counts files words are bytes.
    same recipe base patch report steps files words (All-head IsStepCount steps counts are) bytes counts are

pub returns-clause-accepted : goal.returns-clause-accepted
returns-clause-accepted c = λ recipe base patch report steps counts files words are bytes.
    accepted recipe base patch report steps files words (All-head IsStepCount steps counts are) bytes counts are
