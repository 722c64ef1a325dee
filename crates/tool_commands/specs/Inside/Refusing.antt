-- The answers to a refusal of a language and to a script that stopped. Out of memory is no refusal and has no answer. No promise depends on
-- these definitions.
use Rattle.std.specs.Prelude.{◌≡◌, Result, Err}
use Rattle.hex_langs.specs.declared.items.reader.HexRefusal.{HexRefusal}
use Rattle.hex_langs.specs.declared.items.reader.HexRefusal.TheVariants as refusal
use Rattle.hex_langs.specs.Items.Refusals.{hex_refusal_number, hex_refusal_place}
use Rattle.m1_lang.specs.declared.refusal.M1Refusal.{M1Refusal}
use Rattle.m1_lang.specs.declared.refusal.M1Refusal.TheVariants as m1
use Rattle.m1_lang.specs.Refusals.{m1_refusal_number, m1_refusal_place}
use Rattle.kaem_script.specs.declared.fold.ScriptStop.{ScriptStop}
use Rattle.kaem_script.specs.declared.fold.ScriptStop.TheVariants as script
use Rattle.command_plan.specs.declared.answer.Answer.{Answer}
use Rattle.command_plan.specs.declared.status.Status.TheVariants.{CheckFailed, RunFailed}
use Rattle.command_plan.specs.declared.stop.Stop.{Stop}
use Rattle.command_plan.specs.declared.stop.Stop.TheVariants as stop
use Rattle.command_plan.specs.Plan.{answers}
use Rattle.command_plan.specs.Steps.{Says}
use Rattle.tool_commands.specs.Asm.{refused_line}
use Rattle.tool_commands.specs.ScriptTexts.{command_failed_line}

abbrev pub Refuses : HexRefusal → Result Answer Stop → Type 0
Refuses refusal.OutOfMemory result = result ≡ Err stop.OutOfMemory
Refuses why result = Says (answers CheckFailed (refused_line (hex_refusal_number why) (hex_refusal_place why))) result

abbrev pub RefusesM1 : M1Refusal → Result Answer Stop → Type 0
RefusesM1 m1.OutOfMemory result = result ≡ Err stop.OutOfMemory
RefusesM1 why result = Says (answers CheckFailed (refused_line (m1_refusal_number why) (m1_refusal_place why))) result

abbrev pub AnswersStop : ScriptStop → Result Answer Stop → Type 0
AnswersStop (script.Failed number why step) result = Says (answers RunFailed (command_failed_line number why step)) result
AnswersStop (script.OutOfMemory number) result = result ≡ Err stop.OutOfMemory
