-- A command of a script by its number, with those before it.
use Rattle.std.proofs.Common.{◌≡◌, ℕ, None, Some, Result, List, take, ap, sym, subst, arith}
use Rattle.std.proofs.lemmas.List.{length-take}
use Rattle.std.proofs.lemmas.List.Elements.{All-take}
use Rattle.std.specs.Prelude.{slice_get}
use Rattle.ddc_base.specs.Outside.{ShelfState}
use Rattle.kaem_script.specs.Kept.{AreCommands, IsCommand}
use Rattle.kaem_script.specs.Leaving.{LeftResult}
use Rattle.command_plan.specs.declared.answer.Answer.{Answer}
use Rattle.command_plan.specs.declared.stop.Stop.{Stop}
use Rattle.command_plan.specs.Performs.{Performs}
use Rattle.command_plan.specs.Plan.{Plan}
use Rattle.command_plan.specs.Steps.{Says}
use Rattle.command_plan.specs.Words.{or_usage, usage}
use Rattle.command_plan.proofs.Performing.{says}
use Rattle.tool_commands.specs.KaemLeft.{command_left_plan}

module _ (commands : List (List (List ℕ))) (at : ℕ) (next : List (List ℕ) → Plan) where
  pub command_there : (words : List (List ℕ)) (old new : ShelfState) (result : Result Answer Stop) → slice_get commands at ≡ Some words → Performs (next words) old new result
      → Performs (or_usage (slice_get commands at) next) old new result
  command_there words old new result there performs = subst (λ (p : Plan). Performs p old new result) (sym (ap (λ found. or_usage found next) there)) performs

  pub none_there : (shelf : ShelfState) (result : Result Answer Stop) → slice_get commands at ≡ None → Says usage result → Performs (or_usage (slice_get commands at) next) shelf shelf result
  none_there shelf result none parsed = subst (λ (p : Plan). Performs p shelf shelf result) (sym (ap (λ found. or_usage found next) none)) (says usage shelf result parsed)

-- the commands before one obey the rules of commands
pub commands_before : (count : ℕ) (commands : List (List (List ℕ))) → AreCommands commands → AreCommands (take count commands)
commands_before count commands are = record {
  few = omega (arith, are.few, length-take count commands);
  each = All-take IsCommand count commands are.each;
}

-- what a command left, as a call found it
pub as_found : (number : ℕ) (file out : List ℕ) {meant found : LeftResult} {old new : ShelfState} {result : Result Answer Stop} → meant ≡ found
    → Performs (command_left_plan number file out found) old new result → Performs (command_left_plan number file out meant) old new result
as_found number file out {meant} {found} {old} {new} {result} is performs =
    subst (λ (left : LeftResult). Performs (command_left_plan number file out left) old new result) (sym is) performs
