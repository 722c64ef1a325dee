-- The outcomes of `kaem SCRIPT LIST REPORT STEPS` and `kaem-verify SCRIPT LIST REPORT`. docs/reference/kaem.md says the same for people.
use Rattle.std.specs.Prelude.{◌≡◌, ◌≢◌, ℕ, IsTrue, false, Some, Ok, List, [], ◌∷◌, codes, decimal, length}
use Rattle.std.specs.List.{list_any}
use Rattle.std.specs.FinMap as map
use Rattle.ddc_base.specs.declared.outside.Loaded.TheVariants.{Bytes}
use Rattle.ddc_base.specs.Outside.{NamedFiles, loaded}
use Rattle.ddc_base.specs.Limits.{most_content, most_files, most_list, most_script, most_steps, most_total}
use Rattle.mem_files.specs.World.{World}
use Rattle.report.specs.Script.Reports.{script_report_text}
use Rattle.kaem_script.specs.FilesListed.{FilesListed, no_files}
use Rattle.kaem_script.specs.Fold.{Folded, RanAll, Ran, Stopped, folded}
use Rattle.kaem_script.specs.Reported.{script_report}
use Rattle.kaem_script.specs.Script.{ScriptContents}
use Rattle.command_plan.specs.declared.status.Status.TheVariants.{RunFailed, Yes}
use Rattle.command_plan.specs.Lists.{list_of}
use Rattle.command_plan.specs.Plan.{Outcome, outcome}
use Rattle.command_plan.specs.Words.{are_three_files, as_steps, is_one_file}
use Rattle.tool_commands.specs.Kaem.{steps_of_commands}
use Rattle.tool_commands.specs.Scripts.{and_files, file_line, script_of}
use Rattle.tool_commands.specs.ScriptTexts.{command_failed_line, commands_true_line, done_line}
use Rattle.ddc_app.specs.Commands.{plan_of}
use Rattle.ddc_app.specs.Holding.{AreHeld}

-- the outcomes of `kaem` and `kaem-verify` on these files
abbrev pub kaem : List ℕ → List ℕ → List ℕ → ℕ → NamedFiles → Outcome
kaem script list report most files = outcome (plan_of (codes "kaem" ∷ script ∷ list ∷ report ∷ decimal most ∷ [])) files

abbrev pub kaem_verify : List ℕ → List ℕ → List ℕ → NamedFiles → Outcome
kaem_verify script list report files = outcome (plan_of (codes "kaem-verify" ∷ script ∷ list ∷ report ∷ [])) files

-- the outcome of `kaem-left` on these files, for any words
abbrev pub kaem_left : List ℕ → List ℕ → List ℕ → List ℕ → List ℕ → List ℕ → NamedFiles → Outcome
kaem_left script list steps command file out files = outcome (plan_of (codes "kaem-left" ∷ script ∷ list ∷ steps ∷ command ∷ file ∷ out ∷ [])) files

-- ---- the conditions on words and files

-- Three words name three files. The files hold a valid script, and a valid list none of whose words names the report's file. They hold the
-- contents of these words, within their limits. `parsed` is the script, and `listed` are the listed files
pub record HoldsScript (script list report : List ℕ) (files : NamedFiles) (parsed : ScriptContents) (listed : FilesListed) : Type 0 where
  pub three : IsTrue (are_three_files script list report)
  pub script_bytes : List ℕ
  pub script_held : loaded files script most_script ≡ Bytes script_bytes
  pub script_reads : script_of script_bytes ≡ Ok parsed
  pub list_bytes : List ℕ
  pub list_held : loaded files list most_list ≡ Bytes list_bytes
  pub words : List (List ℕ)
  pub list_reads : list_of file_line most_files list_bytes ≡ Ok words
  pub apart : list_any (λ word. is_one_file word report) words ≡ false
  pub contents : List (List ℕ)
  pub contents_held : AreHeld most_content most_total files words contents
  pub listed_are : listed ≡ and_files no_files words contents

-- ---- the outcomes

-- the outcome of `kaem`, by how its commands ended: all ran and REPORT holds their report, or one stopped the script and no file changes
abbrev pub kaem_ended : List ℕ → NamedFiles → ScriptContents → FilesListed → Folded → Outcome
kaem_ended report files parsed listed (RanAll ran world) = record {
  status = Yes;
  text = done_line (length ran) (steps_of_commands ran);
  files = map.insert files report (script_report_text (script_report parsed listed ran world));
}
kaem_ended report files parsed listed (Stopped number cause step) =
    record { status = RunFailed; text = command_failed_line number cause step; files = files }

-- REPORT holds exactly the text of what these commands did. Each exits with 0 at its recorded step, at most 2^48, and leaves the recorded
-- streams. The last one leaves the recorded files
pub record IsScriptTrue (report : List ℕ) (files : NamedFiles) (parsed : ScriptContents) (listed : FilesListed) : Type 0 where
  pub ran : List Ran
  pub world : World
  pub all_ran : folded most_steps listed.world parsed.commands ≡ RanAll ran world
  pub held : map.get files report ≡ Some (script_report_text (script_report parsed listed ran world))

-- what a 0 of `kaem-verify` shows: the files hold a valid script and a valid list, and the report is true of them; the text says how many
-- commands ran
pub record ScriptVerified (script list report : List ℕ) (files : NamedFiles) (answer : Outcome) : Type 0 where
  pub parsed : ScriptContents
  pub listed : FilesListed
  pub holds : HoldsScript script list report files parsed listed
  pub is_true : IsScriptTrue report files parsed listed
  pub text : answer.text ≡ commands_true_line (length parsed.commands)

-- what a 0 of `kaem` shows: the files hold a valid script and a valid list, and all commands ran, each for at most STEPS steps
pub record ScriptReported (script list report steps : List ℕ) (files : NamedFiles) (answer : Outcome) : Type 0 where
  pub most : ℕ
  pub counted : as_steps steps ≡ Some most
  pub parsed : ScriptContents
  pub listed : FilesListed
  pub holds : HoldsScript script list report files parsed listed
  pub ran : List Ran
  pub world : World
  pub all_ran : folded most listed.world parsed.commands ≡ RanAll ran world
  pub answer_is : answer ≡ kaem_ended report files parsed listed (RanAll ran world)

-- a command changes no name except REPORT, and REPORT only if it returns 0
pub record ChangesReportAlone (report : List ℕ) (files : NamedFiles) (answer : Outcome) : Type 0 where
  pub others : (name : List ℕ) → name ≢ report → map.get answer.files name ≡ map.get files name
  pub unless_yes : answer.status ≢ Yes → answer.files ≡ files

-- `kaem-left` changes no name except OUT, and OUT only if it returns 0 or 6
pub record ChangesOutAlone (out : List ℕ) (files : NamedFiles) (answer : Outcome) : Type 0 where
  pub others : (name : List ℕ) → name ≢ out → map.get answer.files name ≡ map.get files name
  pub unless_left : answer.status ≢ Yes → answer.status ≢ RunFailed → answer.files ≡ files
