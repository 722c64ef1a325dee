use Rattle.std.proofs.Common.{ℕ, ◌≤◌, Result, List, [], ◌∷◌, length, map, arith}
use Rattle.std.specs.Borrow.{Bor}
use Rattle.command_plan.specs.declared.answer.Answer.{Answer}
use Rattle.command_plan.specs.declared.stop.Stop.{Stop}
use Rattle.command_plan.specs.Steps.{Says}
use Rattle.command_plan.specs.Words.{usage}
use Rattle.ddc_app.specs.Help.{help_plan}
use Rattle.ddc_app.proofs.help.perform.Goals as goal

-- two words or more are no words of `help`
too_many : (words : List (Bor (List ℕ))) (result : Result Answer Stop) → 2 ≤ length words → Says usage result → Says (help_plan (map (λ word. word.now) words)) result
too_many [] result two parsed = absurd (omega arith)
too_many (word ∷ []) result two parsed = absurd (omega arith)
too_many (first ∷ second ∷ words) result two parsed = parsed

pub returns-in_default : goal.returns-in_default
returns-in_default c = too_many c.args.words.now _ c.in_default.len_at_least c.usage.ensures
