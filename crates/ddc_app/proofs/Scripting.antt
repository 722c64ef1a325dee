-- What the commands on scripts come to.
use Rattle.std.proofs.Common.{◌≡◌, ◌≢◌, ℕ, ◌-◌, ◌≤◌, ◌^◌, ◌↔◌, ◌&&◌, Bool, true, false, cond, IsTrue, Option, Some, None, Result, Ok, Err, List, [], ◌∷◌, length, decimal, codes, refl, sym, ap, ◌∙◌, subst, arith, All, ◌<◌}
use Rattle.std.specs.FinMap as finite
use Rattle.std.specs.List.{list_any}
use Rattle.std.specs.Prelude.{nat_le, slice_get, take}
use Rattle.std.proofs.lemmas.Bool.{and_parts, leb-true}
use Rattle.std.proofs.lemmas.List.{map-id}
use Rattle.ddc_base.specs.Decimals.{as_decimal}
use Rattle.ddc_base.specs.declared.outside.Loaded.{Loaded}
use Rattle.ddc_base.specs.declared.outside.Loaded.TheVariants.{Absent, Bytes, TooLong}
use Rattle.ddc_base.specs.Outside.{NamedFiles, loaded}
use Rattle.ddc_base.proofs.StoredFiles.{others-insert}
use Rattle.ddc_base.specs.Limits.{most_content, most_files, most_list, most_report, most_script, most_steps, most_total}
use Rattle.mem_files.specs.Outputs.{IsContent}
use Rattle.mem_files.specs.Sound.{IsSound}
use Rattle.mem_files.specs.World.{World}
use Rattle.report.specs.Script.Reading.{script_report_of}
use Rattle.report.specs.Script.Reports.{IsScriptReport, script_report_text}
use Rattle.report.specs.declared.script.types.ScriptReport.{ScriptReport}
use Rattle.report.proofs.ScriptLemmas.Lengths.{short}
use Rattle.report.proofs.LineByLine.Readings.{is_reading, read_its_text}
use Rattle.report.proofs.ScriptLemmas.Readings.{script_rules}
use Rattle.kaem_script.specs.declared.cause.CommandCause.{CommandCause}
use Rattle.kaem_script.specs.declared.cause.CommandCause.TheVariants as cause
use Rattle.kaem_script.specs.declared.leaving.CommandLeft.{CommandLeft}
use Rattle.kaem_script.specs.declared.refusal.ScriptFault.{ScriptFault}
use Rattle.kaem_script.specs.declared.verdict.ScriptPart.{ScriptPart}
use Rattle.kaem_script.specs.Faults.{first_script_fault}
use Rattle.kaem_script.specs.FilesListed.{FilesListed, IsList, no_files}
use Rattle.kaem_script.specs.Fold.{Folded, Ran, RanAll, Stopped, folded}
use Rattle.kaem_script.specs.Leaving.{LeftResult, left_of_command}
use Rattle.kaem_script.specs.Reported.{script_ended, script_report}
use Rattle.kaem_script.specs.Script.{ScriptContents}
use Rattle.kaem_script.proofs.DoneReports.{done-report}
use Rattle.kaem_script.proofs.OneReport.{no_fault_reports, reported_without_fault}
use Rattle.command_plan.specs.declared.status.Status.{Status}
use Rattle.command_plan.specs.declared.status.Status.TheVariants as status
use Rattle.command_plan.specs.Lists.{list_of, needs_list}
use Rattle.command_plan.specs.Plan.{LoadsBytes, Outcome, Plan, answers, bytes_then, follow, needs, outcome, unless_refused}
use Rattle.command_plan.specs.Texts.{list_line, report_line, usage_line}
use Rattle.command_plan.specs.Words.{are_three_files, as_steps, is_one_file, or_usage, usage, within_steps}
use Rattle.tool_commands.specs.GuestFiles.{as_guest_file, bytes_left_at}
use Rattle.tool_commands.specs.Kaem.{folded_plan, kaem_files}
use Rattle.tool_commands.specs.KaemLeft.{as_command_number, command_absent_status, command_left_plan, command_left_status, command_none_left_line, command_saved_left, kaem_left_files, kaem_left_of, kaem_left_words, saved_by}
use Rattle.tool_commands.specs.KaemVerify.{kaem_verify_files, needs_script_report, script_verdict_plan}
use Rattle.tool_commands.specs.Scripts.{and_files, file_line, needs_files, needs_script, needs_script_and_list, needs_unlisted, script_of}
use Rattle.tool_commands.specs.ScriptTexts.{command_failed_line, commands_true_line, script_line}
use Rattle.tool_commands.proofs.ListedFiles.{listed-sound}
use Rattle.tool_commands.proofs.ReadScripts.{read-good}
use Rattle.ddc_app.specs.Accepting.{is_compared}
use Rattle.ddc_app.specs.Commands.{plan_of}
use Rattle.ddc_app.specs.Holding.{AreHeld}
use Rattle.ddc_app.specs.Pausing.{IsStepCount}
use Rattle.ddc_app.specs.Scripted.{ChangesOutAlone, ChangesReportAlone, HoldsScript, IsScriptTrue, ScriptReported, ScriptVerified, kaem, kaem_ended, kaem_left, kaem_verify}
use Rattle.ddc_app.proofs.Beginnings.{three_apart}
use Rattle.ddc_app.proofs.CountWords.{count-again}
use Rattle.ddc_app.proofs.Loads.{as_many, follow_all, follows, found_again, held_small, is_loaded, loaded_contents, loads_bytes, other_held, set_held, within}
use Rattle.ddc_app.proofs.Walks.{IsRefusal, both_need, both_need_all, both_read, told}

-- ---- what holds of every refusal and of what the loads lead to holds of both commands

-- a script and a list that read, none of whose words stands for the report's file
record Opens (script list report : List ℕ) (files : NamedFiles) (parsed : ScriptContents) (words : List (List ℕ)) : Type 0 where
  script_bytes : List ℕ
  script_held : loaded files script most_script ≡ Bytes script_bytes
  script_reads : script_of script_bytes ≡ Ok parsed
  list_bytes : List ℕ
  list_held : loaded files list most_list ≡ Bytes list_bytes
  list_reads : list_of file_line most_files list_bytes ≡ Ok words
  apart : list_any (λ word. is_one_file word report) words ≡ false

module _ (script list report : List ℕ) (files : NamedFiles) (P : Outcome → Type 0) (refused : (given : Status) (text : List ℕ) → IsRefusal given → P (told files given text)) where
  -- the second outcome serves walks of two plans
  abbrev First : Outcome → Outcome → Type 0
  First o _ = P o

  abbrev Keeps : Plan → Type 0
  Keeps plan = P (outcome plan files)

  need_keeps : (name : List ℕ) (limit : ℕ) (next : List ℕ → Plan) → ((content : List ℕ) → loaded files name limit ≡ Bytes content → Keeps (next content)) → Keeps (needs name limit next)
  need_keeps name limit next = both_need First files refused name limit next next

  read_keeps : {A E : Type 0} (reading : Result A E) (given : Status) (text : E → List ℕ) (next : A → Plan) → IsRefusal given
      → ((value : A) → reading ≡ Ok value → Keeps (next value)) → Keeps (unless_refused reading (λ e. answers given (text e)) next)
  read_keeps reading given text next = both_read First files refused reading given text next next

  unlisted_keeps : (words : List (List ℕ)) (next : Unit {0} → Plan) → (list_any (λ word. is_one_file word report) words ≡ false → Keeps (next tt))
      → Keeps (needs_unlisted words report next)
  unfolding needs_unlisted
  unlisted_keeps words next keeps = by (list_any (λ word. is_one_file word report) words) refl
    where
      by : (clash : Bool) → list_any (λ word. is_one_file word report) words ≡ clash → Keeps (cond clash usage (next tt))
      by true is = refused status.Usage usage_line (refl, refl)
      by false is = keeps is

  script_keeps : (next : ScriptContents → Plan) → ((bytes : List ℕ) (parsed : ScriptContents) → loaded files script most_script ≡ Bytes bytes → script_of bytes ≡ Ok parsed → Keeps (next parsed))
      → Keeps (needs_script script next)
  script_keeps next keeps =
      let text : ScriptFault × ℕ → List ℕ = λ fault. script_line fault.0 fault.1 in
      need_keeps script most_script (λ bytes. unless_refused (script_of bytes) (λ fault. answers status.ScriptRefused (text fault)) next)
      (λ bytes held. read_keeps (script_of bytes) status.ScriptRefused text next (refl, refl) (λ parsed reads. keeps bytes parsed held reads))

  list_keeps : (next : List (List ℕ) → Plan) → ((bytes : List ℕ) (words : List (List ℕ)) → loaded files list most_list ≡ Bytes bytes → list_of file_line most_files bytes ≡ Ok words → Keeps (next words))
      → Keeps (needs_list file_line most_files list next)
  list_keeps next keeps =
      need_keeps list most_list (λ bytes. unless_refused (list_of file_line most_files bytes) (λ number. answers status.ListRefused (list_line number)) next)
      (λ bytes held. read_keeps (list_of file_line most_files bytes) status.ListRefused list_line next (refl, refl) (λ words reads. keeps bytes words held reads))

  leading_keeps : (next : ScriptContents → List (List ℕ) → Plan) → ((parsed : ScriptContents) (words : List (List ℕ)) → Opens script list report files parsed words → Keeps (next parsed words))
      → Keeps (needs_script_and_list script list report next)
  leading_keeps next keeps =
      let following : ScriptContents → List (List ℕ) → Plan = λ parsed words. needs_unlisted words report (λ _. next parsed words) in
      script_keeps (λ parsed. needs_list file_line most_files list (following parsed)) (λ bytes parsed held reads.
      list_keeps (following parsed) (λ text words text_held words_read.
      unlisted_keeps words (λ _. next parsed words) (λ apart.
      keeps parsed words (record {
        script_bytes = bytes;
        script_held = held;
        script_reads = reads;
        list_bytes = text;
        list_held = text_held;
        list_reads = words_read;
        apart = apart;
      }))))

  report_keeps : (next : ScriptReport → Plan) → ((text : List ℕ) (made : ScriptReport) → loaded files report most_report ≡ Bytes text → script_report_of text ≡ Ok made → Keeps (next made))
      → Keeps (needs_script_report report next)
  report_keeps next keeps =
      need_keeps report most_report (λ text. unless_refused (script_report_of text) (λ number. answers status.ReportRefused (report_line number)) next)
      (λ text held. read_keeps (script_report_of text) status.ReportRefused report_line next (refl, refl) (λ made reads. keeps text made held reads))

  files_keep : (three : IsTrue (are_three_files script list report)) (parsed : ScriptContents) (words : List (List ℕ)) → Opens script list report files parsed words → (next : FilesListed → Plan)
      → ((listed : FilesListed) → HoldsScript script list report files parsed listed → Keeps (next listed)) → Keeps (needs_files words next)
  unfolding needs_files
  files_keep three parsed words o next keeps =
      let last : List (List ℕ) → Plan = λ contents. next (and_files no_files words contents) in
      both_need_all First files refused most_content most_total words last last (λ contents held.
      keeps (and_files no_files words contents) (record {
        three = three;
        script_bytes = o.script_bytes;
        script_held = o.script_held;
        script_reads = o.script_reads;
        list_bytes = o.list_bytes;
        list_held = o.list_held;
        words = words;
        list_reads = o.list_reads;
        apart = o.apart;
        contents = contents;
        contents_held = held;
        listed_are = refl;
      }))

  -- `kaem`
  abbrev Folds : List ℕ → Type 0
  Folds steps =
      (most : ℕ) (parsed : ScriptContents) (listed : FilesListed) → as_steps steps ≡ Some most → HoldsScript script list report files parsed listed
      → Keeps (folded_plan report parsed listed (folded most listed.world parsed.commands))

  pub kaem_keeps : (steps : List ℕ) → Folds steps → Keeps (plan_of (codes "kaem" ∷ script ∷ list ∷ report ∷ steps ∷ []))
  unfolding kaem_files
  kaem_keeps steps keeps = by (as_steps steps) refl (are_three_files script list report) refl
    where
      by : (count : Option ℕ) → as_steps steps ≡ count → (three : Bool) → are_three_files script list report ≡ three
          → Keeps (or_usage count (λ most. cond three (kaem_files script list report most) usage))
      by None is three are = refused status.Usage usage_line (refl, refl)
      by (Some most) is false are = refused status.Usage usage_line (refl, refl)
      by (Some most) is true are =
          let last : ScriptContents → FilesListed → Plan = λ parsed listed. folded_plan report parsed listed (folded most listed.world parsed.commands) in
          leading_keeps (λ parsed words. needs_files words (last parsed)) (λ parsed words o.
          files_keep are parsed words o (last parsed) (λ listed holds. keeps most parsed listed is holds))

  -- `kaem-verify`
  abbrev Judges : Type 0
  Judges =
      (parsed : ScriptContents) (listed : FilesListed) (text : List ℕ) (made : ScriptReport) → HoldsScript script list report files parsed listed
      → loaded files report most_report ≡ Bytes text → script_report_of text ≡ Ok made
      → Keeps (script_verdict_plan (length parsed.commands) (first_script_fault parsed listed made))

  pub kaem_verify_keeps : Judges → Keeps (plan_of (codes "kaem-verify" ∷ script ∷ list ∷ report ∷ []))
  unfolding kaem_verify_files
  kaem_verify_keeps keeps = by (are_three_files script list report) refl
    where
      by : (three : Bool) → are_three_files script list report ≡ three → Keeps (cond three (kaem_verify_files script list report) usage)
      by false are = refused status.Usage usage_line (refl, refl)
      by true are =
          let last : ScriptContents → ScriptReport → FilesListed → Plan = λ parsed made listed. script_verdict_plan (length parsed.commands) (first_script_fault parsed listed made) in
          let loads : ScriptContents → List (List ℕ) → ScriptReport → Plan = λ parsed words made. needs_files words (last parsed made) in
          leading_keeps (λ parsed words. needs_script_report report (loads parsed words)) (λ parsed words o.
          report_keeps (loads parsed words) (λ text made held reads.
          files_keep are parsed words o (last parsed made) (λ listed holds. keeps parsed listed text made holds held reads)))

  -- `kaem-left`, whose OUT stands for the report
  abbrev Ends : Type 0
  Ends = (number : ℕ) (place : List ℕ) (left : LeftResult) → Keeps (command_left_plan number place report left)

  abbrev at_command : ℕ → ℕ → List ℕ → ScriptContents → List (List ℕ) → Plan
  at_command most number place parsed words =
      needs_list file_line most_files list (λ names. needs_unlisted names report (λ _. needs_files names (λ listed.
      command_left_plan number place report (left_of_command most listed.world (take (number - 1) parsed.commands) words))))

  command_keeps : Ends → (most number : ℕ) (place : List ℕ) (parsed : ScriptContents) (found : Option (List (List ℕ))) → Keeps (or_usage found (at_command most number place parsed))
  unfolding needs_files
  command_keeps keeps most number place parsed None = refused status.Usage usage_line (refl, refl)
  command_keeps keeps most number place parsed (Some words) =
      let found : FilesListed → LeftResult = λ listed. left_of_command most listed.world (take (number - 1) parsed.commands) words in
      let last : FilesListed → Plan = λ listed. command_left_plan number place report (found listed) in
      list_keeps (λ names. needs_unlisted names report (λ _. needs_files names last)) (λ text names held reads.
      unlisted_keeps names (λ _. needs_files names last) (λ apart.
      both_need_all First files refused most_content most_total names (λ contents. last (and_files no_files names contents)) (λ contents. last (and_files no_files names contents))
      (λ contents loads. keeps number place (found (and_files no_files names contents)))))

  pub kaem_left_keeps : (steps command file : List ℕ) → Ends → Keeps (plan_of (codes "kaem-left" ∷ script ∷ list ∷ steps ∷ command ∷ file ∷ report ∷ []))
  unfolding kaem_left_words
  kaem_left_keeps steps command file keeps = by (are_three_files script list report) (as_steps steps) (as_command_number command) (as_guest_file file)
    where
      by : (three : Bool) (most number : Option ℕ) (place : Option (List ℕ))
          → Keeps (or_usage (kaem_left_of (cond {A = Option (List ℕ × List ℕ × List ℕ)} three (Some (script, list, report)) None) most number place) kaem_left_files)
      by true (Some most) (Some number) (Some place) =
          script_keeps (λ parsed. or_usage (slice_get parsed.commands (number - 1)) (at_command most number place parsed))
          (λ bytes parsed held reads. command_keeps keeps most number place parsed (slice_get parsed.commands (number - 1)))
      by true (Some most) (Some number) None = refused status.Usage usage_line (refl, refl)
      by true (Some most) None place = refused status.Usage usage_line (refl, refl)
      by true None number place = refused status.Usage usage_line (refl, refl)
      by false most number place = refused status.Usage usage_line (refl, refl)

-- ---- what they leave

module _ (script list report : List ℕ) (files : NamedFiles) where
  abbrev Alone : Outcome → Type 0
  Alone = ChangesReportAlone report files

  as_before : (given : Status) (text : List ℕ) → Alone (told files given text)
  as_before given text = record { others = λ name other. refl; unless_yes = λ other. refl }

  by_fold : (parsed : ScriptContents) (listed : FilesListed) (f : Folded) → Alone (outcome (folded_plan report parsed listed f) files)
  by_fold parsed listed (RanAll ran world) = record {
    others = λ name other. (others-insert files report (script_report_text (script_report parsed listed ran world))).others name other;
    unless_yes = λ other. absurd (other refl);
  }
  by_fold parsed listed (Stopped number cause step) = as_before status.RunFailed (command_failed_line number cause step)

  pub kaem_leaves : (most : ℕ) → ChangesReportAlone report files (kaem script list report most files)
  kaem_leaves most =
      kaem_keeps script list report files Alone (λ given text _. as_before given text) (decimal most)
      (λ n parsed listed count holds. by_fold parsed listed (folded n listed.world parsed.commands))

  by_verdict : (count : ℕ) (fault : Option (ScriptPart × ℕ)) → (outcome (script_verdict_plan count fault) files).files ≡ files
  by_verdict count None = refl
  by_verdict count (Some (part, place)) = refl

  pub kaem_verify_leaves : (kaem_verify script list report files).files ≡ files
  kaem_verify_leaves =
      kaem_verify_keeps script list report files (λ o. o.files ≡ files) (λ given text _. refl)
      (λ parsed listed text made holds held reads. by_verdict (length parsed.commands) (first_script_fault parsed listed made))

  abbrev OutAlone : Outcome → Type 0
  OutAlone = ChangesOutAlone report files

  out_as_before : (given : Status) (text : List ℕ) → OutAlone (told files given text)
  out_as_before given text = record { others = λ name other. refl; unless_left = λ no_yes no_failure. refl }

  no_third : (why : CommandCause) → command_left_status why ≢ status.Yes → command_left_status why ≢ status.RunFailed → ⊥
  no_third (cause.Status number) no_yes no_failure = no_yes refl
  no_third cause.NoProgram no_yes no_failure = no_failure refl
  no_third (cause.Elf refusal) no_yes no_failure = no_failure refl
  no_third (cause.Trap trap) no_yes no_failure = no_failure refl
  no_third (cause.Call call) no_yes no_failure = no_failure refl
  no_third cause.Spent no_yes no_failure = no_failure refl

  by_position : (number : ℕ) (place : List ℕ) (left : CommandLeft) (found : Option (List ℕ)) → OutAlone (outcome (saved_by number place report left found) files)
  by_position number place left None = out_as_before (command_absent_status left.cause) (command_none_left_line number place left.cause left.step)
  by_position number place left (Some content) = record {
    others = λ name other. (others-insert files report content).others name other;
    unless_left = λ no_yes no_failure. absurd (no_third left.cause no_yes no_failure);
  }

  by_left : (number : ℕ) (place : List ℕ) (left : LeftResult) → OutAlone (outcome (command_left_plan number place report left) files)
  unfolding command_saved_left
  by_left number place (Ok left) = by_position number place left (bytes_left_at left.files place)
  by_left number place (Err stop) = out_as_before status.RunFailed (command_failed_line stop.0 stop.1 stop.2)

  pub kaem_left_leaves : (steps command file : List ℕ) → ChangesOutAlone report files (kaem_left script list steps command file report files)
  kaem_left_leaves steps command file = kaem_left_keeps script list report files OutAlone (λ given text _. out_as_before given text) steps command file by_left

-- ---- where they come to a yes

no_yes : (given : Status) → is_compared given ≡ false → given ≡ status.Yes → ⊥
no_yes given refusal ends = let both : false ≡ true = sym refusal ∙ ap is_compared ends in cc

module _ (script list report : List ℕ) (files : NamedFiles) where
  -- the report that is held says what its commands come to
  pub shows_true : (parsed : ScriptContents) (listed : FilesListed) (text : List ℕ) (made : ScriptReport) → loaded files report most_report ≡ Bytes text → script_report_of text ≡ Ok made
      → first_script_fault parsed listed made ≡ None → IsScriptTrue report files parsed listed
  shows_true parsed listed text made held reads none =
      by (folded most_steps listed.world parsed.commands) refl (no_fault_reports parsed listed made none)
    where
      by : (f : Folded) → folded most_steps listed.world parsed.commands ≡ f → script_ended parsed listed f ≡ Ok made → IsScriptTrue report files parsed listed
      by (Stopped number cause step) was ends = absurd cc
      by (RanAll ran world) was ends =
          let same : script_report parsed listed ran world ≡ made = cc in
          record {
            ran = ran;
            world = world;
            all_ran = was;
            held = (within most_report (finite.get files report) text held).0 ∙ ap Some ((is_reading script_rules text (Ok made) reads).1 ∙ ap script_report_text (sym same));
          }

  pub kaem_verifies : (kaem_verify script list report files).status ≡ status.Yes → ScriptVerified script list report files (kaem_verify script list report files)
  kaem_verifies =
      kaem_verify_keeps script list report files (λ o. o.status ≡ status.Yes → ScriptVerified script list report files o)
      (λ given text refusal ends. absurd (no_yes given refusal.1 ends)) (λ parsed listed text made holds held reads.
      by parsed listed text made holds held reads (first_script_fault parsed listed made) refl)
    where
      by : (parsed : ScriptContents) (listed : FilesListed) (text : List ℕ) (made : ScriptReport) → HoldsScript script list report files parsed listed
          → loaded files report most_report ≡ Bytes text → script_report_of text ≡ Ok made → (fault : Option (ScriptPart × ℕ)) → first_script_fault parsed listed made ≡ fault
          → (outcome (script_verdict_plan (length parsed.commands) fault) files).status ≡ status.Yes
          → ScriptVerified script list report files (outcome (script_verdict_plan (length parsed.commands) fault) files)
      by parsed listed text made holds held reads None none ends =
          record { parsed = parsed; listed = listed; holds = holds; is_true = shows_true parsed listed text made held reads none; text = refl }
      by parsed listed text made holds held reads (Some (part, place)) none ends = absurd cc

  pub kaem_reports : (steps : List ℕ) → (outcome (plan_of (codes "kaem" ∷ script ∷ list ∷ report ∷ steps ∷ [])) files).status ≡ status.Yes
      → ScriptReported script list report steps files (outcome (plan_of (codes "kaem" ∷ script ∷ list ∷ report ∷ steps ∷ [])) files)
  kaem_reports steps =
      kaem_keeps script list report files (λ o. o.status ≡ status.Yes → ScriptReported script list report steps files o)
      (λ given text refusal ends. absurd (no_yes given refusal.1 ends)) steps (λ most parsed listed count holds.
      by most parsed listed count holds (folded most listed.world parsed.commands) refl)
    where
      by : (most : ℕ) (parsed : ScriptContents) (listed : FilesListed) → as_steps steps ≡ Some most → HoldsScript script list report files parsed listed
          → (f : Folded) → folded most listed.world parsed.commands ≡ f → (outcome (folded_plan report parsed listed f) files).status ≡ status.Yes
          → ScriptReported script list report steps files (outcome (folded_plan report parsed listed f) files)
      by most parsed listed count holds (RanAll ran world) was ends =
          record { most = most; counted = count; parsed = parsed; listed = listed; holds = holds; ran = ran; world = world; all_ran = was; answer_is = refl }
      by most parsed listed count holds (Stopped number cause step) was ends = absurd cc

-- ---- over files that hold a script

module _ (script list report : List ℕ) (files : NamedFiles) (parsed : ScriptContents) (listed : FilesListed) (h : HoldsScript script list report files parsed listed) where
  leading_opens : (next : ScriptContents → List (List ℕ) → Plan) → outcome (needs_script_and_list script list report next) files ≡ outcome (next parsed h.words) files
  unfolding needs_unlisted
  leading_opens next =
      let following : ScriptContents → List (List ℕ) → Plan = λ s words. needs_unlisted words report (λ _. next s words) in
      let lists : ScriptContents → Plan = λ s. needs_list file_line most_files list (following s) in
      let refuse : ScriptFault × ℕ → Plan = λ fault. answers status.ScriptRefused (script_line fault.0 fault.1) in
      let refuse_list : ℕ → Plan = λ number. answers status.ListRefused (list_line number) in
      follows script most_script (λ bytes. unless_refused (script_of bytes) refuse lists) files h.script_bytes h.script_held
      ∙ ap (λ reading. outcome (unless_refused reading refuse lists) files) h.script_reads
      ∙ follows list most_list (λ bytes. unless_refused (list_of file_line most_files bytes) refuse_list (following parsed)) files h.list_bytes h.list_held
      ∙ ap (λ reading. outcome (unless_refused reading refuse_list (following parsed)) files) h.list_reads
      ∙ ap (λ clash. outcome (cond clash usage (next parsed h.words)) files) h.apart

  files_open : (next : FilesListed → Plan) → outcome (needs_files h.words next) files ≡ outcome (next listed) files
  unfolding needs_files
  files_open next =
      follow_all most_content most_total files h.words h.contents (λ contents. next (and_files no_files h.words contents)) h.contents_held
      ∙ ap (λ l. outcome (next l) files) (sym h.listed_are)

  -- what is loaded of the script and of the listed words are bytes
  pub record AreBytes : Type 0 where
    pub text : All (λ byte. byte < 256) h.script_bytes
    pub contents : All IsContent h.contents

  leading_loads : (next : ScriptContents → List (List ℕ) → Plan) → LoadsBytes (needs_script_and_list script list report next) files
      → All (λ byte. byte < 256) h.script_bytes × LoadsBytes (next parsed h.words) files
  unfolding needs_unlisted
  leading_loads next bytes =
      let following : ScriptContents → List (List ℕ) → Plan = λ s words. needs_unlisted words report (λ _. next s words) in
      let lists : ScriptContents → Plan = λ s. needs_list file_line most_files list (following s) in
      let refuse : ScriptFault × ℕ → Plan = λ fault. answers status.ScriptRefused (script_line fault.0 fault.1) in
      let refuse_list : ℕ → Plan = λ number. answers status.ListRefused (list_line number) in
      let first = loads_bytes script most_script (λ b. unless_refused (script_of b) refuse lists) files h.script_bytes h.script_held bytes in
      let lines : LoadsBytes (lists parsed) files = subst (λ reading. LoadsBytes (unless_refused reading refuse lists) files) h.script_reads first.1 in
      let second = loads_bytes list most_list (λ b. unless_refused (list_of file_line most_files b) refuse_list (following parsed)) files h.list_bytes h.list_held lines in
      let words : LoadsBytes (following parsed h.words) files = subst (λ reading. LoadsBytes (unless_refused reading refuse_list (following parsed)) files) h.list_reads second.1 in
      (first.0, subst (λ clash. LoadsBytes (cond clash usage (next parsed h.words)) files) h.apart words)

  -- they are where the loads of `kaem` find bytes
  pub kaem_loaded : (steps : List ℕ) (most : ℕ) → as_steps steps ≡ Some most → LoadsBytes (plan_of (codes "kaem" ∷ script ∷ list ∷ report ∷ steps ∷ [])) files → AreBytes
  unfolding kaem_files needs_files
  kaem_loaded steps most count bytes =
      let last : ScriptContents → FilesListed → Plan = λ s l. folded_plan report s l (folded most l.world s.commands) in
      let leading = leading_loads (λ s words. needs_files words (last s))
      (subst (λ three. LoadsBytes (cond three (kaem_files script list report most) usage) files) h.three
      (subst (λ n. LoadsBytes (or_usage n (λ m. cond (are_three_files script list report) (kaem_files script list report m) usage)) files) count bytes)) in
      record {
        text = leading.0;
        contents = loaded_contents most_total files h.words h.contents (λ contents. last parsed (and_files no_files h.words contents)) h.contents_held leading.1;
      }

  ends_so : (f : Folded) → outcome (folded_plan report parsed listed f) files ≡ kaem_ended report files parsed listed f
  ends_so (RanAll ran world) = refl
  ends_so (Stopped number cause step) = refl

  pub kaem_folds : (most : ℕ) → IsStepCount most → kaem script list report most files ≡ kaem_ended report files parsed listed (folded most listed.world parsed.commands)
  unfolding kaem_files
  kaem_folds most count =
      let last : ScriptContents → FilesListed → Plan = λ s l. folded_plan report s l (folded most l.world s.commands) in
      ap (λ steps. outcome (or_usage steps (λ n. cond (are_three_files script list report) (kaem_files script list report n) usage)) files) (count-again most count)
      ∙ ap (λ three. outcome (cond three (kaem_files script list report most) usage) files) h.three
      ∙ leading_opens (λ s words. needs_files words (last s))
      ∙ files_open (last parsed)
      ∙ ends_so (folded most listed.world parsed.commands)

  -- the judgement of a report
  abbrev judged : ScriptReport → Plan
  judged made = script_verdict_plan (length parsed.commands) (first_script_fault parsed listed made)

  abbrev loads : ScriptContents → List (List ℕ) → ScriptReport → Plan
  loads s words made = needs_files words (λ l. script_verdict_plan (length s.commands) (first_script_fault s l made))

  report_opens : kaem_verify script list report files ≡ outcome (needs_script_report report (loads parsed h.words)) files
  unfolding kaem_verify_files
  report_opens =
      ap (λ three. outcome (cond three (kaem_verify_files script list report) usage) files) h.three
      ∙ leading_opens (λ s words. needs_script_report report (loads s words))

  judges : (made : ScriptReport) → outcome (loads parsed h.words made) files ≡ outcome (judged made) files
  judges made = files_open (λ l. script_verdict_plan (length parsed.commands) (first_script_fault parsed l made))

  -- ---- the report of what ran

  pub listed_sound : AreBytes → IsList listed × IsSound listed.world
  listed_sound bytes =
      subst (λ (l : FilesListed). IsList l × IsSound l.world) (sym h.listed_are)
      (listed-sound h.list_bytes h.words h.contents h.list_reads (as_many most_content most_total files h.words h.contents h.contents_held)
      bytes.contents (held_small most_total files h.words h.contents h.contents_held))

  pub report_good : AreBytes → (most : ℕ) (ran : List Ran) (world : World) → most ≤ most_steps → folded most listed.world parsed.commands ≡ RanAll ran world
      → IsScriptReport (script_report parsed listed ran world)
  report_good bytes most ran world few all_ran =
      let good = read-good h.script_bytes parsed h.script_reads bytes.text in
      let sound = listed_sound bytes in
      done-report most parsed listed ran world few good.0 good.1 sound.0 sound.1 all_ran

  -- ---- a report that is held

  abbrev Accepted : Outcome
  Accepted = record { status = status.Yes; text = commands_true_line (length parsed.commands); files = files }

  pub accepts_report : (most : ℕ) (ran : List Ran) (world : World) → most ≤ most_steps → folded most listed.world parsed.commands ≡ RanAll ran world
      → IsScriptReport (script_report parsed listed ran world) → finite.get files report ≡ Some (script_report_text (script_report parsed listed ran world))
      → kaem_verify script list report files ≡ Accepted
  accepts_report most ran world few all_ran good held =
      let made = script_report parsed listed ran world in
      let text : List ℕ = script_report_text made in
      let refuse : ℕ → Plan = λ number. answers status.ReportRefused (report_line number) in
      report_opens
      ∙ follows report most_report (λ t. unless_refused (script_report_of t) refuse (loads parsed h.words)) files text (is_loaded files report text most_report held (short made good))
      ∙ ap (λ reading. outcome (unless_refused reading refuse (loads parsed h.words)) files) (read_its_text script_rules text made good refl)
      ∙ judges made
      ∙ ap (λ fault. outcome (script_verdict_plan (length parsed.commands) fault) files)
      (reported_without_fault most parsed listed made few (ap (script_ended parsed listed) all_ran))

  -- a yes shows that the report is true
  abbrev Shows : Outcome → Type 0
  Shows answer = answer.status ≡ status.Yes → IsScriptTrue report files parsed listed × (answer.text ≡ commands_true_line (length parsed.commands))

  yes_shows : Shows (kaem_verify script list report files)
  yes_shows =
      subst Shows (sym report_opens)
      (report_keeps script list report files Shows (λ given text refusal ends. absurd (no_yes given refusal.1 ends)) (loads parsed h.words) (λ text made held reads.
      subst Shows (sym (judges made)) (by text made held reads (first_script_fault parsed listed made) refl)))
    where
      by : (text : List ℕ) (made : ScriptReport) → loaded files report most_report ≡ Bytes text → script_report_of text ≡ Ok made → (fault : Option (ScriptPart × ℕ))
          → first_script_fault parsed listed made ≡ fault → Shows (outcome (script_verdict_plan (length parsed.commands) fault) files)
      by text made held reads None none ends = (shows_true script list report files parsed listed text made held reads none, refl)
      by text made held reads (Some (part, place)) none ends = absurd cc

  true_yes : AreBytes → IsScriptTrue report files parsed listed → (kaem_verify script list report files).status ≡ status.Yes
  true_yes bytes t =
      ap (λ (o : Outcome). o.status)
      (accepts_report most_steps t.ran t.world (omega arith) t.all_ran (report_good bytes most_steps t.ran t.world (omega arith) t.all_ran) t.held)

  pub script_verified : (steps : ℕ) → IsStepCount steps → LoadsBytes (plan_of (codes "kaem" ∷ script ∷ list ∷ report ∷ decimal steps ∷ [])) files
      → ((kaem_verify script list report files).status ≡ status.Yes) ↔ IsScriptTrue report files parsed listed
  script_verified steps counted bytes = (λ ends. (yes_shows ends).0, true_yes (kaem_loaded (decimal steps) steps (count-again steps counted) bytes))

  pub script_text : (kaem_verify script list report files).status ≡ status.Yes → (kaem_verify script list report files).text ≡ commands_true_line (length parsed.commands)
  script_text ends = (yes_shows ends).1

  -- ---- with the loads of `kaem-verify` alone

  abbrev refuse_report : ℕ → Plan
  refuse_report number = answers status.ReportRefused (report_line number)

  abbrev after_report : List ℕ → Plan
  after_report text = unless_refused (script_report_of text) refuse_report (loads parsed h.words)

  verify_loads : LoadsBytes (plan_of (codes "kaem-verify" ∷ script ∷ list ∷ report ∷ [])) files
      → All (λ byte. byte < 256) h.script_bytes × LoadsBytes (needs report most_report after_report) files
  unfolding kaem_verify_files
  verify_loads bytes =
      leading_loads (λ s words. needs_script_report report (loads s words))
      (subst (λ three. LoadsBytes (cond three (kaem_verify_files script list report) usage) files) h.three bytes)

  files_loaded : (made : ScriptReport) → All (λ byte. byte < 256) h.script_bytes → LoadsBytes (loads parsed h.words made) files → AreBytes
  unfolding needs_files
  files_loaded made text bytes = record {
    text = text;
    contents = loaded_contents most_total files h.words h.contents
        (λ contents. script_verdict_plan (length parsed.commands) (first_script_fault parsed (and_files no_files h.words contents) made)) h.contents_held bytes;
  }

  -- a report that is refuted was loaded and read, so that the listed files were loaded too
  pub refuted_is_false : LoadsBytes (plan_of (codes "kaem-verify" ∷ script ∷ list ∷ report ∷ [])) files
      → IsScriptTrue report files parsed listed → (kaem_verify script list report files).status ≢ status.Refuted
  refuted_is_false bytes t ends =
      let leading = verify_loads bytes in
      by_load (loaded files report most_report) leading.0 leading.1 (subst (λ (o : Outcome). o.status ≡ status.Refuted) report_opens ends)
    where
      by_reading : (reading : Result ScriptReport ℕ) → All (λ byte. byte < 256) h.script_bytes → LoadsBytes (unless_refused reading refuse_report (loads parsed h.words)) files
          → (outcome (unless_refused reading refuse_report (loads parsed h.words)) files).status ≡ status.Refuted → ⊥
      by_reading (Err number) text read refuted = absurd cc
      by_reading (Ok made) text read refuted = let yes : (kaem_verify script list report files).status ≡ status.Yes = true_yes (files_loaded made text read) t in absurd cc

      by_load : (l : Loaded) → All (λ byte. byte < 256) h.script_bytes → bytes_then l (λ content. LoadsBytes (after_report content) files)
          → (follow l (λ content. outcome (after_report content) files) (λ text. record { status = status.FileRefused; text = text; files = files }) report).status ≡ status.Refuted → ⊥
      by_load (Bytes content) text read refuted = by_reading (script_report_of content) text read.1 refuted
      by_load Absent text read refuted = absurd cc
      by_load TooLong text read refuted = absurd cc

  -- also once a report was set
  pub holds_again : (content : List ℕ) → HoldsScript script list report (finite.insert files report content) parsed listed
  holds_again content =
      let apart = three_apart script list report h.three in
      let after : NamedFiles = finite.insert files report content in
      record {
        three = h.three;
        script_bytes = h.script_bytes;
        script_held = other_held files report content script most_script apart.recipe_report ∙ h.script_held;
        script_reads = h.script_reads;
        list_bytes = h.list_bytes;
        list_held = other_held files report content list most_list apart.save_report ∙ h.list_held;
        words = h.words;
        list_reads = h.list_reads;
        apart = h.apart;
        contents = h.contents;
        contents_held = subst (λ names. AreHeld most_content most_total after names h.contents) (map-id h.words)
            (found_again most_content most_total files report content (λ (word : List ℕ). word) h.words h.contents h.apart
            (subst (λ names. AreHeld most_content most_total files names h.contents) (sym (map-id h.words)) h.contents_held));
        listed_are = h.listed_are;
      }

-- ---- the report of `kaem` is accepted

few_steps : (steps : List ℕ) (most : ℕ) → as_steps steps ≡ Some most → most ≤ most_steps
unfolding as_steps
few_steps steps most is = by_count (as_decimal steps) is
  where
    by_limits : (count : ℕ) (b : Bool) → (nat_le 1 count && nat_le count most_steps) ≡ b → cond b (Some count) None ≡ Some most → most ≤ most_steps
    by_limits count false is here = absurd cc
    by_limits count true is here =
        let same : count ≡ most = cc in
        subst (λ (n : ℕ). n ≤ most_steps) same (leb-true count most_steps (and_parts (nat_le 1 count) (nat_le count most_steps) is).1)

    by_count : (count : Option ℕ) → within_steps count ≡ Some most → most ≤ most_steps
    by_count None here = absurd cc
    by_count (Some count) here = by_limits count (nat_le 1 count && nat_le count most_steps) refl here

-- what a command that ends in a yes leaves is accepted
pub script_accepted : (script list report steps : List ℕ) (files : NamedFiles) → LoadsBytes (plan_of (codes "kaem" ∷ script ∷ list ∷ report ∷ steps ∷ [])) files
    → (outcome (plan_of (codes "kaem" ∷ script ∷ list ∷ report ∷ steps ∷ [])) files).status ≡ status.Yes
    → (kaem_verify script list report (outcome (plan_of (codes "kaem" ∷ script ∷ list ∷ report ∷ steps ∷ [])) files).files).status ≡ status.Yes
script_accepted script list report steps files bytes ends =
    let r = kaem_reports script list report files steps ends in
    let text : List ℕ = script_report_text (script_report r.parsed r.listed r.ran r.world) in
    let few = few_steps steps r.most r.counted in
    let loaded = kaem_loaded script list report files r.parsed r.listed r.holds steps r.most r.counted bytes in
    let good = report_good script list report files r.parsed r.listed r.holds loaded r.most r.ran r.world few r.all_ran in
    let again = holds_again script list report files r.parsed r.listed r.holds text in
    subst (λ (o : Outcome). (kaem_verify script list report o.files).status ≡ status.Yes) (sym r.answer_is)
    (ap (λ (o : Outcome). o.status)
    (accepts_report script list report (finite.insert files report text) r.parsed r.listed again r.most r.ran r.world few r.all_ran good (set_held files report text)))

pub accepted_text : (script list report : List ℕ) (steps : ℕ) (files : NamedFiles) (parsed : ScriptContents) (listed : FilesListed) → HoldsScript script list report files parsed listed
    → LoadsBytes (plan_of (codes "kaem" ∷ script ∷ list ∷ report ∷ decimal steps ∷ [])) files → (kaem script list report steps files).status ≡ status.Yes
    → (kaem_verify script list report (kaem script list report steps files).files).text ≡ commands_true_line (length parsed.commands)
accepted_text script list report steps files parsed listed h bytes ends =
    let r = kaem_reports script list report files (decimal steps) ends in
    let text : List ℕ = script_report_text (script_report r.parsed r.listed r.ran r.world) in
    let after : NamedFiles = finite.insert files report text in
    let left : (kaem script list report steps files).files ≡ after = ap (λ (o : Outcome). o.files) r.answer_is in
    subst (λ (now : NamedFiles). (kaem_verify script list report now).text ≡ commands_true_line (length parsed.commands)) (sym left)
    (script_text script list report after parsed listed (holds_again script list report files parsed listed h text)
    (subst (λ (now : NamedFiles). (kaem_verify script list report now).status ≡ status.Yes) left (script_accepted script list report (decimal steps) files bytes ends)))
