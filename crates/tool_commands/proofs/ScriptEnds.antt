-- What a plan comes to by the end of a script's audit, and by the verdict on its report.
use Rattle.std.proofs.Common.{◌≡◌, ℕ, ◌+◌, Option, None, Some, Result, Ok, Err, List, [], ◌∷◌, length, map, sum_by, refl, sym, ap, ◌∙◌, subst}
use Rattle.std.proofs.lemmas.List.{length-map}
use Rattle.std.proofs.lemmas.List.Sums.{sum_by-cons}
use Rattle.sha2.specs.Sha256.{sha256}
use Rattle.report.specs.declared.script.types.CommandLine.{CommandLine}
use Rattle.report.specs.declared.script.types.ScriptReport.{ScriptReport}
use Rattle.report.specs.Script.Reports.{script_report_text}
use Rattle.kaem_script.specs.declared.cause.CommandCause.{CommandCause}
use Rattle.kaem_script.specs.declared.fold.ScriptStop.{ScriptStop}
use Rattle.kaem_script.specs.declared.fold.ScriptStop.TheVariants.{Failed, OutOfMemory}
use Rattle.kaem_script.specs.declared.refusal.ScriptFault.{ScriptFault}
use Rattle.kaem_script.specs.declared.verdict.ScriptPart.{ScriptPart}
use Rattle.kaem_script.specs.declared.verdict.ScriptVerdict.TheVariants as verdict
use Rattle.kaem_script.specs.FilesListed.{FilesListed}
use Rattle.kaem_script.specs.Fold.{AnswersScript, Folded, Ran, RanAll, ScriptResult, Stopped}
use Rattle.kaem_script.specs.Reported.{command_line, script_ended, script_report}
use Rattle.kaem_script.specs.Script.{ScriptContents, commands_of}
use Rattle.kaem_script.specs.Verdicts.{JudgesScript}
use Rattle.ddc_base.specs.Outside.{ShelfState}
use Rattle.command_plan.specs.declared.answer.Answer.{Answer}
use Rattle.command_plan.specs.declared.status.Status.TheVariants.{Refuted, RunFailed, ScriptRefused, Yes}
use Rattle.command_plan.specs.declared.stop.Stop.{Stop}
use Rattle.command_plan.specs.Performs.{Performs}
use Rattle.command_plan.specs.Plan.{Plan, answers, sets}
use Rattle.command_plan.specs.Steps.{Says}
use Rattle.command_plan.proofs.Performing.{says, wants_memory}
use Rattle.tool_commands.specs.Inside.Refusing.{AnswersStop}
use Rattle.tool_commands.specs.Kaem.{folded_plan, steps_of_commands}
use Rattle.tool_commands.specs.KaemVerify.{script_verdict_plan}
use Rattle.tool_commands.specs.Scripts.{script_by_text, script_of}
use Rattle.tool_commands.specs.ScriptTexts.{command_failed_line, commands_true_line, done_line, script_line, script_refuted_line}

-- ---- a script that was read

pub script-parsed : (text : List ℕ) (parsed : ScriptContents) → commands_of text ≡ Ok parsed.commands → parsed.digest.0 ≡ sha256 text → script_of text ≡ Ok parsed
unfolding script_of
script-parsed text parsed is digest =
    ap (script_by_text text) is ∙ λ i. Ok (record { digest = record { 0 = sym digest i }; commands = parsed.commands })

pub script-fault : (text : List ℕ) (fault : ScriptFault) (at : ℕ) → commands_of text ≡ Err (fault, at) → script_of text ≡ Err (fault, at)
unfolding script_of
script-fault text fault at is = ap (script_by_text text) is

abbrev pub refuse_script : ScriptFault × ℕ → Plan
refuse_script fault = answers ScriptRefused (script_line fault.0 fault.1)

-- ---- a script that did not go on

-- a plan that says which command stopped it
pub where_stopped : {A : Type 0} (plan : Plan) (found meant : ScriptResult A) (stop : ScriptStop) (shelf : ShelfState) (result : Result Answer Stop) → found ≡ meant
    → ((number : ℕ) (why : CommandCause) (step : ℕ) → meant ≡ Err (number, why, step) → plan ≡ answers RunFailed (command_failed_line number why step))
    → AnswersScript found (Err stop) → AnswersStop stop result → Performs plan shelf shelf result
where_stopped plan found meant (Failed number why step) shelf result same is answered parsed =
    let P : Plan → Type 0 = λ it. Performs it shelf shelf result in
    subst P (sym (is number why step (sym same ∙ answered))) (says (answers RunFailed (command_failed_line number why step)) shelf result parsed)
where_stopped plan found meant (OutOfMemory number) shelf result same is answered parsed =
    let P : Result Answer Stop → Type 0 = λ it. Performs plan shelf shelf it in
    subst P (sym parsed) (wants_memory plan shelf)

-- ---- the end of an audit

abbrev pub steps_in : List CommandLine → ℕ
steps_in commands = sum_by (λ (c : CommandLine). c.steps) commands

same-steps : (ran : List Ran) → steps_in (map command_line ran) ≡ steps_of_commands ran
same-steps [] = refl
same-steps (one ∷ ran) =
    sum_by-cons (λ (c : CommandLine). c.steps) (command_line one) (map command_line ran) ∙ ap (λ n. one.steps + n) (same-steps ran)
    ∙ sym (sum_by-cons (λ (r : Ran). r.steps) one ran)

-- the report is saved, and its commands are counted
abbrev pub saved : List ℕ → ScriptReport → Plan
saved file made = sets file (script_report_text made) (answers Yes (done_line (length made.commands) (steps_in made.commands)))

pub saved-so : (file content : List ℕ) (commands : List CommandLine) (made : ScriptReport) (answer : Answer) (old new : ShelfState) (result : Result Answer Stop) → content ≡ script_report_text made
    → commands ≡ made.commands → Says (answers Yes (done_line (length commands) (steps_in commands))) (Ok answer)
    → Performs (sets file content (answers answer.status answer.text)) old new result → Performs (saved file made) old new result
saved-so file content commands made answer old new result text_is same says_so p =
    subst (λ plan. Performs plan old new result)
    ((λ i. sets file (text_is i) (sym says_so.by_result i)) ∙ ap (λ cs. sets file (script_report_text made) (answers Yes (done_line (length cs) (steps_in cs)))) same) p

module _ (file : List ℕ) (parsed : ScriptContents) (listed : FilesListed) where
  pub all-ran : (folds : Folded) (made : ScriptReport) → script_ended parsed listed folds ≡ Ok made → folded_plan file parsed listed folds ≡ saved file made
  unfolding script_report
  all-ran (RanAll ran world) made is =
      let same : script_report parsed listed ran world ≡ made = cc in
      (λ i. sets file (script_report_text (script_report parsed listed ran world)) (answers Yes (done_line (sym (length-map ran command_line) i) (sym (same-steps ran) i)))) ∙ ap (saved file) same
  all-ran (Stopped number why step) made is = absurd cc

  pub one-stopped : (folds : Folded) (number : ℕ) (why : CommandCause) (step : ℕ) → script_ended parsed listed folds ≡ Err (number, why, step)
      → folded_plan file parsed listed folds ≡ answers RunFailed (command_failed_line number why step)
  one-stopped (RanAll ran world) number why step is = absurd cc
  one-stopped (Stopped at cause last) number why step is =
      let stop_is : (at, cause, last) ≡ (number, why, step) = cc in
      ap (λ (stop : ℕ × CommandCause × ℕ). answers RunFailed (command_failed_line stop.0 stop.1 stop.2)) stop_is

-- ---- the verdict

pub no-fault : (commands : ℕ) (fault : Option (ScriptPart × ℕ)) → JudgesScript fault verdict.Yes → script_verdict_plan commands fault ≡ answers Yes (commands_true_line commands)
no-fault commands None is = refl
no-fault commands (Some (part, place)) is = absurd cc

pub a-fault : (commands : ℕ) (fault : Option (ScriptPart × ℕ)) (part : ScriptPart) (place : ℕ) → JudgesScript fault (verdict.Refuted part place)
    → script_verdict_plan commands fault ≡ answers Refuted (script_refuted_line part place)
a-fault commands None part place is = absurd cc
a-fault commands (Some (first, at)) part place is =
    let part_is : first ≡ part = cc in
    let offset_is : at ≡ place = cc in
    λ i. answers Refuted (script_refuted_line (part_is i) (offset_is i))
