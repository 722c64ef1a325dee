-- How a command ends that has an answer before its end. No promise depends on these definitions.
use Rattle.std.specs.Prelude.{◌≡◌, Result, Ok, Err}
use Rattle.command_plan.specs.declared.answer.Answer.{Answer}
use Rattle.command_plan.specs.declared.stop.Stop.{Stop}
use Rattle.command_plan.specs.declared.stop.Stop.TheVariants as stop

-- the command ends with the answer, or with what prevented the answer
abbrev pub EndsWith : Result Answer Stop → Result (Unit {0}) Stop → Type 0
EndsWith (Ok answer) result = result ≡ Err (stop.Answered answer)
EndsWith (Err ending) result = result ≡ Err ending
