-- With which statuses each command ends, whatever its words and the files are.
use Rattle.std.proofs.Common.{◌≡◌, ℕ, zero, suc, ◌+◌, ◌-◌, ◌==◌, ◌&&◌, Bool, true, false, cond, IsTrue, Option, None, Some, Result, Ok, Err, List, [], ◌∷◌, ◌++◌, codes, drop, length, subst, sym}
use Rattle.std.specs.List.{list_any}
use Rattle.std.specs.Prelude.{nat_lt, slice_get, take}
use Rattle.ddc_base.specs.Difference.{first_difference}
use Rattle.ddc_base.specs.Languages.Words.{language_named}
use Rattle.ddc_base.specs.declared.languages.Language.{Language}
use Rattle.ddc_base.specs.declared.languages.Language.TheVariants.{Hex0, Hex1, Hex2, M1}
use Rattle.ddc_base.specs.Limits.{most_audits, most_content, most_files, most_inputs, most_lines, most_listed, most_report, most_save, most_script, most_state, most_states, most_total}
use Rattle.prompt.specs.Talks.{talk}
use Rattle.hex_langs.specs.Hex0.{hex0_of}
use Rattle.hex_langs.specs.Items.Refusals.{hex_refusal_number, hex_refusal_place}
use Rattle.hex_langs.specs.Link.Values.{value_of}
use Rattle.hex_langs.specs.Writer.Writing.{items_text}
use Rattle.hex_langs.specs.declared.link.values.HexLanguage.TheVariants as hex
use Rattle.m1_lang.specs.Expansion.{expansion_of}
use Rattle.guest_run.specs.Run.{End, Exited, Trapped, UnknownCall, first_end}
use Rattle.guest_run.specs.Start.{Refusal, start_of}
use Rattle.guest_run.specs.State.{GuestState}
use Rattle.kaem_script.specs.Faults.{first_script_fault}
use Rattle.kaem_script.specs.FilesListed.{FilesListed, no_files}
use Rattle.kaem_script.specs.Fold.{Folded, RanAll, Stopped, folded}
use Rattle.kaem_script.specs.Leaving.{LeftResult}
use Rattle.kaem_script.specs.Reported.{script_report}
use Rattle.kaem_script.specs.Script.{ScriptContents}
use Rattle.kaem_script.specs.declared.cause.CommandCause.{CommandCause}
use Rattle.kaem_script.specs.declared.cause.CommandCause.TheVariants as cause
use Rattle.kaem_script.specs.declared.leaving.CommandLeft.{CommandLeft}
use Rattle.kaem_script.specs.declared.verdict.ScriptPart.{ScriptPart}
use Rattle.recipe.specs.Lookups.{stage_at}
use Rattle.recipe.specs.Reading.{recipe_of}
use Rattle.recipe.specs.declared.text.refusal.RecipeRefusal.{RecipeRefusal}
use Rattle.recipe.specs.declared.contents.RecipeContents.{RecipeContents}
use Rattle.recipe.specs.declared.parts.Stage.{Stage}
use Rattle.report.specs.Reports.{report_text}
use Rattle.report.specs.Script.Reading.{script_report_of}
use Rattle.report.specs.Script.Reports.{script_report_text}
use Rattle.report.specs.declared.script.types.ScriptReport.{ScriptReport}
use Rattle.report.specs.declared.types.CompareLine.{CompareLine}
use Rattle.audit_rules.specs.Bench.{all_equal, bench}
use Rattle.audit_rules.specs.Positions.{Position, Phase, On, Over, forward, position}
use Rattle.audit_rules.specs.Stages.{contents, start_cause, start_stage}
use Rattle.audit_rules.specs.declared.answer.AuditAnswer.{AuditAnswer}
use Rattle.audit_rules.specs.declared.answer.AuditAnswer.TheVariants.{Completes, Fails}
use Rattle.audit_rules.specs.declared.answer.Finished.{Finished}
use Rattle.audit_rules.specs.declared.answer.StageFault.TheVariants.{Runs}
use Rattle.audit_rules.specs.declared.cause.RunCause.{RunCause}
use Rattle.audit_rules.specs.declared.cause.RunCause.TheVariants as run
use Rattle.audit_run.specs.Delta.Deltas.{delta_text_of}
use Rattle.audit_run.specs.Earlier.{done_in_order}
use Rattle.audit_chain.specs.declared.link.Link.{Link}
use Rattle.segments.specs.Segments.{second_text}
use Rattle.segments.specs.declared.answers.SegmentFault.{SegmentFault}
use Rattle.segments.specs.declared.answers.StateFault.{StateFault}
use Rattle.step_debug.specs.Sessions.{SessionState, reply_to}
use Rattle.verifier.specs.Faults.{first_fault}
use Rattle.verifier.specs.declared.part.Part.{Part}
use Rattle.wheeler.specs.AllContents.{stage_named}
use Rattle.command_plan.specs.Plan.{Plan, answers, sets, unless_refused}
use Rattle.command_plan.specs.Texts.{list_line, report_line}
use Rattle.command_plan.specs.Words.{are_four_files, are_three_files, are_two_files, as_steps, has_no_zero_byte, is_file_word, is_one_file, usage}
use Rattle.command_plan.specs.declared.status.Status.{Status}
use Rattle.command_plan.specs.declared.status.Status.TheVariants.{CheckFailed, Differs, FileRefused, ListRefused, Paused, RecipeRefused, Refuted, ReportRefused, RunFailed, SaveRefused, ScriptRefused, TooManySegments, Usage, Yes}
use Rattle.recipe_plan.specs.Recipes.{needs_apart, reads_recipe}
use Rattle.recipe_plan.specs.Texts.{compared_lines, recipe_line}
use Rattle.audit_commands.specs.Audit.{audit_files, audit_plan, audited, completed}
use Rattle.audit_commands.specs.Delta.{delta_resume_files, delta_resume_plan, delta_start_files, delta_start_plan, needs_position_relative, read_relative}
use Rattle.audit_commands.specs.Demo.{as_demo_size, demo_compared, demo_files, demo_inputs, demo_line, demo_plan, demo_recipe, demonstrated, generated_bytes, steps_of_all}
use Rattle.audit_commands.specs.Pause.{came_to, needs_position, part_files, part_plan, paused, read_as, resume_files, resume_plan, whole_save}
use Rattle.audit_commands.specs.Show.{show_file, show_plan}
use Rattle.stage_commands.specs.Cut.{came_on, cut_files, cut_from, cut_plan, cut_ready, next_steps, saved_from}
use Rattle.stage_commands.specs.Earlier.{needs_earlier, needs_stage}
use Rattle.stage_commands.specs.Ends.{ends_files, ends_judged, ends_plan, last_reported, needs_first, needs_last, unless_other_start}
use Rattle.stage_commands.specs.Exits.{output_left, run_ended, run_failed}
use Rattle.stage_commands.specs.Left.{RunLeft, absent_status, are_left_words, ends_left, left_by, left_files, left_of_stage, left_plan, left_status, run_left, saved_left}
use Rattle.stage_commands.specs.Names.{are_stage_words, as_states, each_name, needs_other, piece_name}
use Rattle.stage_commands.specs.Ready.{needs_ready}
use Rattle.stage_commands.specs.Segment.{piece_reported, segment_files, segment_plan}
use Rattle.stage_commands.specs.States.{end_after, piece_of, state_after, state_parsed}
use Rattle.stage_commands.specs.Step.{are_step_words, needs_session, session_of, step_plan, step_stage}
use Rattle.stage_commands.specs.Texts.{too_many_line}
use Rattle.tool_commands.specs.Asm.{as_base, asm_files, asm_plan, made_line, needs_made, refused_line}
use Rattle.tool_commands.specs.GuestFiles.{bytes_left_at}
use Rattle.tool_commands.specs.Hex0.{comparison, hex0_files, hex0_plan}
use Rattle.tool_commands.specs.Kaem.{folded_plan, kaem_files, kaem_plan, steps_of_commands}
use Rattle.tool_commands.specs.KaemLeft.{command_absent_status, command_left_plan, command_left_status, command_saved_left, kaem_left_files, kaem_left_plan, kaem_left_words, saved_by}
use Rattle.tool_commands.specs.KaemVerify.{kaem_verify_files, kaem_verify_plan, needs_script_report, script_verdict_plan}
use Rattle.tool_commands.specs.List.{list_file, list_plan, listing}
use Rattle.tool_commands.specs.RunProgram.{are_run_words, end_plan, exited_text, run_file, run_plan, setting_of, start_plan, status_of}
use Rattle.tool_commands.specs.Scripts.{and_files, file_line, needs_files, needs_script, needs_script_and_list, needs_unlisted, script_of}
use Rattle.tool_commands.specs.ScriptTexts.{done_line}
use Rattle.tool_commands.specs.Where.{located, no_place_line, spot_line, where_file, where_plan, where_words}
use Rattle.tool_commands.specs.Offsets.{leading_word, spot_after}
use Rattle.verify_commands.specs.Chain.{chain_files, chain_plan, chained, chained_lines, needs_audit, needs_true, needs_two_files, pair_of, budget_after}
use Rattle.verify_commands.specs.ChainTexts.{audit_line, chain_text}
use Rattle.verify_commands.specs.Rests.{rested, rests_files, rests_plan, rests_text}
use Rattle.verify_commands.specs.Verify.{explained, judge_files, judge_plan, judged_with}
use Rattle.verify_commands.specs.declared.explanation.Explanation.{Explanation}
use Rattle.ddc_app.specs.Help.{command_named, command_page, help_plan, help_text}
use Rattle.ddc_app.specs.Version.{version_plan, version_text}
use Rattle.ddc_app.proofs.EndsAs.{EndsAs, apart, compares, converses, either, fits, loads, loads_all, loads_inputs, loads_inputs_within, loads_list, loads_recipe, loads_recipe_after, loads_report, loads_report_after, misused, reads, saves, says, stops, worded}

-- what a function takes: two of these types have no name outside their crates
abbrev Taken : {A B : Type 0} → (A → B) → Type 0
Taken {A} f = A

abbrev Ready : Type 0
Ready = Taken (cut_ready 0 [])

abbrev Pair : Type 0
Pair = Taken needs_two_files

module _ (ok : Status → Bool) (usage_is : IsTrue (ok Usage)) (absent_is : IsTrue (ok FileRefused)) (yes_is : IsTrue (ok Yes)) where
  abbrev Ends : Plan → Type 0
  Ends plan = EndsAs ok plan

  wrong : Ends usage
  wrong = misused ok usage_is absent_is

  -- ---- tools

  compared : (first second : List ℕ) (differs : IsTrue (ok Differs)) (offset : Option ℕ) → Ends (comparison first second offset)
  compared first second differs None = says ok Yes _ yes_is
  compared first second differs (Some offset) = says ok Differs _ differs

  pub hex0_ends : IsTrue (ok Differs) → (words : List (List ℕ)) → Ends (hex0_plan words)
  unfolding hex0_files
  hex0_ends differs (source ∷ binary ∷ []) =
      fits ok usage_is absent_is (is_file_word source && is_file_word binary) (hex0_files source binary)
      (loads ok usage_is absent_is source most_content _ (λ text. loads ok usage_is absent_is binary most_content _ (λ bytes.
      compared (hex0_of text) bytes differs (first_difference (hex0_of text) bytes))))
  hex0_ends differs [] = wrong
  hex0_ends differs (a ∷ []) = wrong
  hex0_ends differs (a ∷ b ∷ c ∷ more) = wrong

  made : IsTrue (ok CheckFailed) → (language : Language) (base : ℕ) (source : List ℕ) (next : List ℕ → Plan) → ((bytes : List ℕ) → Ends (next bytes))
      → Ends (needs_made language base source next)
  made refused Hex0 base source next after =
      reads ok (value_of hex.Hex0 base source) (λ why. answers CheckFailed (refused_line (hex_refusal_number why) (hex_refusal_place why))) next
      (λ why. says ok CheckFailed (refused_line (hex_refusal_number why) (hex_refusal_place why)) refused) after
  made refused Hex1 base source next after = reads ok (value_of hex.Hex1 base source) _ next (λ why. says ok CheckFailed _ refused) after
  made refused Hex2 base source next after = reads ok (value_of hex.Hex2 base source) _ next (λ why. says ok CheckFailed _ refused) after
  made refused M1 base source next after = reads ok (expansion_of source) _ (λ items. next (items_text items)) (λ why. says ok CheckFailed _ refused) (λ items. after (items_text items))

  pub asm_ends : IsTrue (ok CheckFailed) → (words : List (List ℕ)) → Ends (asm_plan words)
  unfolding asm_files
  asm_ends refused (language ∷ base ∷ source ∷ out ∷ []) =
      worded ok usage_is absent_is (language_named language) _ (λ named. worded ok usage_is absent_is (as_base base) _ (λ address.
      fits ok usage_is absent_is (are_two_files source out) (asm_files named address source out)
      (loads ok usage_is absent_is source most_content _ (λ text. made refused named address text (λ bytes. sets out bytes (answers Yes (made_line (length bytes)))) (λ bytes.
      saves ok out bytes _ (says ok Yes (made_line (length bytes)) yes_is))))))
  asm_ends refused [] = wrong
  asm_ends refused (a ∷ []) = wrong
  asm_ends refused (a ∷ b ∷ []) = wrong
  asm_ends refused (a ∷ b ∷ c ∷ []) = wrong
  asm_ends refused (a ∷ b ∷ c ∷ d ∷ e ∷ more) = wrong

  found : IsTrue (ok Refuted) → (text : List ℕ) (offset : Option ℕ) → Ends (located text offset)
  found nowhere text None = says ok Refuted no_place_line nowhere
  found nowhere text (Some at) =
      either ok (nat_lt at (length text)) (answers Yes (spot_line (spot_after (take at text)) (leading_word (drop at text)))) (answers Refuted no_place_line)
      (says ok Yes _ yes_is) (says ok Refuted no_place_line nowhere)

  pub where_ends : IsTrue (ok Refuted) → (words : List (List ℕ)) → Ends (where_plan words)
  where_ends nowhere words =
      worded ok usage_is absent_is (where_words words) where_file (λ read.
      loads ok usage_is absent_is _ most_content _ (λ text. found nowhere text _))

  pub list_ends : (words : List (List ℕ)) → Ends (list_plan words)
  unfolding list_file
  list_ends (binary ∷ []) =
      fits ok usage_is absent_is (is_file_word binary) (list_file binary) (loads ok usage_is absent_is binary most_listed _ (λ bytes. says ok Yes (listing 0 bytes) yes_is))
  list_ends [] = wrong
  list_ends (a ∷ b ∷ more) = wrong

  module _ (runs : IsTrue (ok RunFailed)) where
    exits : (status : ℕ) (text : List ℕ) → Ends (answers (status_of status) text)
    exits status text = says ok (status_of status) text (by (status == 0)) where
      by : (b : Bool) → IsTrue (ok (cond b Yes RunFailed))
      by true = yes_is
      by false = runs

    ended : (end : Option (End × GuestState)) (most : ℕ) → Ends (end_plan end most)
    ended (Some (Exited status, guest)) most = exits status (exited_text status (guest.steps + 1) guest.world)
    ended (Some (Trapped trap, guest)) most = says ok RunFailed _ runs
    ended (Some (UnknownCall number, guest)) most = says ok RunFailed _ runs
    ended None most = says ok RunFailed _ runs

    started : (start : Result GuestState Refusal) (most : ℕ) → Ends (start_plan start most)
    started (Ok guest) most = ended (first_end guest most) most
    started (Err why) most = says ok RunFailed _ runs

    pub run_ends : (words : List (List ℕ)) → Ends (run_plan words)
    unfolding run_file
    run_ends (program ∷ steps ∷ args) =
        worded ok usage_is absent_is (as_steps steps) _ (λ most. fits ok usage_is absent_is (are_run_words program args) (run_file program args most)
        (loads ok usage_is absent_is program most_content _ (λ bytes. started (start_of bytes (setting_of (program ∷ args))) most)))
    run_ends [] = wrong
    run_ends (a ∷ []) = wrong

  -- ---- audits

  module _ (differs : IsTrue (ok Differs)) (refused : IsTrue (ok RecipeRefused)) (runs : IsTrue (ok RunFailed)) (checks : IsTrue (ok CheckFailed)) where
    audit_is : (recipe : RecipeContents) (out : List ℕ) (answer : AuditAnswer) → Ends (audited recipe out answer)
    unfolding completed
    audit_is recipe out (Completes report) = saves ok out (report_text report) _ (compares ok report.compare (compared_lines report.compare) yes_is differs)
    audit_is recipe out (Fails number fault) = stops ok recipe number fault runs checks

    pub audit_ends : (words : List (List ℕ)) → Ends (audit_plan words)
    unfolding audit_files
    audit_ends (recipe ∷ report ∷ []) =
        fits ok usage_is absent_is (are_two_files recipe report) (audit_files recipe report)
        (loads_recipe ok usage_is absent_is recipe _ refused (λ parsed. apart ok usage_is absent_is parsed report _
        (loads_inputs ok usage_is absent_is parsed _ (λ inputs. audit_is parsed report (bench parsed inputs)))))
    audit_ends [] = wrong
    audit_ends (a ∷ []) = wrong
    audit_ends (a ∷ b ∷ c ∷ more) = wrong

    module _ (pauses : IsTrue (ok Paused)) where
      came : (recipe : RecipeContents) (kept : Position → List ℕ) (name report : List ℕ) (current : Phase) → Ends (came_to recipe kept name report current)
      unfolding paused
      came recipe kept name report (Over answer) = audit_is recipe report answer
      came recipe kept name report (On p) = saves ok name (kept p) _ (says ok Paused _ pauses)

      pub part_ends : (words : List (List ℕ)) → Ends (part_plan words)
      unfolding part_files
      part_ends (recipe ∷ save ∷ report ∷ steps ∷ []) =
          worded ok usage_is absent_is (as_steps steps) _ (λ count. fits ok usage_is absent_is (are_three_files recipe save report) (part_files recipe save report count)
          (loads_recipe ok usage_is absent_is recipe _ refused (λ parsed. apart ok usage_is absent_is parsed report _ (apart ok usage_is absent_is parsed save _
          (loads_inputs ok usage_is absent_is parsed _ (λ inputs. came parsed (whole_save parsed inputs) save report (position parsed inputs count)))))))
      part_ends [] = wrong
      part_ends (a ∷ []) = wrong
      part_ends (a ∷ b ∷ []) = wrong
      part_ends (a ∷ b ∷ c ∷ []) = wrong
      part_ends (a ∷ b ∷ c ∷ d ∷ e ∷ more) = wrong

      module _ (no_save : IsTrue (ok SaveRefused)) where
        positioned : (recipe : RecipeContents) (inputs : List (List ℕ)) (text : List ℕ) (next : Position → Plan) → ((p : Position) → Ends (next p))
            → Ends (needs_position recipe inputs text next)
        positioned recipe inputs text next after = reads ok (read_as recipe inputs text) _ next (λ why. says ok SaveRefused _ no_save) after

        relative : (recipe : RecipeContents) (inputs : List (List ℕ)) (base : Position) (text : List ℕ) (next : Position → Plan) → ((p : Position) → Ends (next p))
            → Ends (needs_position_relative recipe inputs base text next)
        relative recipe inputs base text next after = reads ok (read_relative recipe inputs base text) _ next (λ why. says ok SaveRefused _ no_save) after

        pub resume_ends : (words : List (List ℕ)) → Ends (resume_plan words)
        unfolding resume_files
        resume_ends (recipe ∷ save ∷ report ∷ steps ∷ []) =
            worded ok usage_is absent_is (as_steps steps) _ (λ count. fits ok usage_is absent_is (are_three_files recipe save report) (resume_files recipe save report count)
            (loads_recipe ok usage_is absent_is recipe _ refused (λ parsed. apart ok usage_is absent_is parsed report _ (apart ok usage_is absent_is parsed save _
            (loads ok usage_is absent_is save most_save _ (λ text. loads_inputs ok usage_is absent_is parsed _ (λ inputs.
            positioned parsed inputs text _ (λ p. came parsed (whole_save parsed inputs) save report (forward parsed inputs p count)))))))))
        resume_ends [] = wrong
        resume_ends (a ∷ []) = wrong
        resume_ends (a ∷ b ∷ []) = wrong
        resume_ends (a ∷ b ∷ c ∷ []) = wrong
        resume_ends (a ∷ b ∷ c ∷ d ∷ e ∷ more) = wrong

        pub delta_start_ends : (words : List (List ℕ)) → Ends (delta_start_plan words)
        unfolding delta_start_files
        delta_start_ends (recipe ∷ base ∷ patch ∷ report ∷ steps ∷ []) =
            worded ok usage_is absent_is (as_steps steps) _ (λ count. fits ok usage_is absent_is (are_four_files recipe base patch report) (delta_start_files recipe base patch report count)
            (loads_recipe ok usage_is absent_is recipe _ refused (λ parsed. apart ok usage_is absent_is parsed report _ (apart ok usage_is absent_is parsed base _ (apart ok usage_is absent_is parsed patch _
            (loads ok usage_is absent_is base most_save _ (λ text. loads_inputs ok usage_is absent_is parsed _ (λ inputs.
            positioned parsed inputs text _ (λ b. came parsed (delta_text_of parsed inputs b) patch report (forward parsed inputs b count))))))))))
        delta_start_ends [] = wrong
        delta_start_ends (a ∷ []) = wrong
        delta_start_ends (a ∷ b ∷ []) = wrong
        delta_start_ends (a ∷ b ∷ c ∷ []) = wrong
        delta_start_ends (a ∷ b ∷ c ∷ d ∷ []) = wrong
        delta_start_ends (a ∷ b ∷ c ∷ d ∷ e ∷ f ∷ more) = wrong

        pub delta_resume_ends : (words : List (List ℕ)) → Ends (delta_resume_plan words)
        unfolding delta_resume_files
        delta_resume_ends (recipe ∷ base ∷ patch ∷ report ∷ steps ∷ []) =
            worded ok usage_is absent_is (as_steps steps) _ (λ count. fits ok usage_is absent_is (are_four_files recipe base patch report) (delta_resume_files recipe base patch report count)
            (loads_recipe ok usage_is absent_is recipe _ refused (λ parsed. apart ok usage_is absent_is parsed report _ (apart ok usage_is absent_is parsed base _ (apart ok usage_is absent_is parsed patch _
            (loads ok usage_is absent_is base most_save _ (λ text. loads ok usage_is absent_is patch most_save _ (λ delta. loads_inputs ok usage_is absent_is parsed _ (λ inputs.
            positioned parsed inputs text _ (λ b. relative parsed inputs b delta _ (λ p. came parsed (delta_text_of parsed inputs b) patch report (forward parsed inputs p count))))))))))))
        delta_resume_ends [] = wrong
        delta_resume_ends (a ∷ []) = wrong
        delta_resume_ends (a ∷ b ∷ []) = wrong
        delta_resume_ends (a ∷ b ∷ c ∷ []) = wrong
        delta_resume_ends (a ∷ b ∷ c ∷ d ∷ []) = wrong
        delta_resume_ends (a ∷ b ∷ c ∷ d ∷ e ∷ f ∷ more) = wrong

  -- the demonstration, whose recipe reads
  module _ (differs : IsTrue (ok Differs)) (runs : IsTrue (ok RunFailed)) (checks : IsTrue (ok CheckFailed)) (given : RecipeContents) (it_reads : recipe_of demo_recipe ≡ Ok given) where
    demo_is : (size : ℕ) (answer : AuditAnswer) → Ends (demonstrated size given answer)
    unfolding demo_compared
    demo_is size (Completes report) =
        either ok (all_equal report.compare) (answers Yes (demo_line size (steps_of_all report))) (answers Differs (compared_lines report.compare))
        (says ok Yes _ yes_is) (says ok Differs _ differs)
    demo_is size (Fails number fault) = stops ok given number fault runs checks

    demo_reads : (next : RecipeContents → Plan) → Ends (next given) → Ends (reads_recipe demo_recipe next)
    demo_reads next after = subst (λ (reading : Result RecipeContents RecipeRefusal). Ends (unless_refused reading (λ refusal. answers RecipeRefused (recipe_line refusal)) next)) (sym it_reads) after

    pub demo_ends : (words : List (List ℕ)) → Ends (demo_plan words)
    unfolding demo_files
    demo_ends (size ∷ []) =
        worded ok usage_is absent_is (as_demo_size size) demo_files (λ count.
        loads ok usage_is absent_is (codes "copy.elf") most_content _ (λ program. loads ok usage_is absent_is (codes "copy.hex0") most_content _ (λ source.
        demo_reads (λ parsed. demonstrated count parsed (bench parsed (demo_inputs parsed program source (generated_bytes count))))
        (demo_is count (bench given (demo_inputs given program source (generated_bytes count)))))))
    demo_ends [] = wrong
    demo_ends (a ∷ b ∷ more) = wrong

  -- ---- reports

  pub show_ends : IsTrue (ok ReportRefused) → (words : List (List ℕ)) → Ends (show_plan words)
  unfolding show_file
  show_ends refused (report ∷ []) =
      fits ok usage_is absent_is (is_file_word report) (show_file report) (loads_report ok usage_is absent_is report _ refused (λ read. says ok Yes (report_text read) yes_is))
  show_ends refused [] = wrong
  show_ends refused (a ∷ b ∷ more) = wrong

  module _ (refuted : IsTrue (ok Refuted)) (differs : IsTrue (ok Differs)) (no_recipe : IsTrue (ok RecipeRefused)) (no_report : IsTrue (ok ReportRefused)) where
    judged_is : (text : List ℕ) (lines : List CompareLine) (fault : Option (Part × ℕ)) → Ends (judged_with text lines fault)
    judged_is text lines None = compares ok lines text yes_is differs
    judged_is text lines (Some (part, offset)) = says ok Refuted _ refuted

    pub judge_ends : (explanation : Explanation) (words : List (List ℕ)) → Ends (judge_plan explanation words)
    unfolding judge_files
    judge_ends explanation (recipe ∷ report ∷ []) =
        fits ok usage_is absent_is (are_two_files recipe report) (judge_files explanation recipe report)
        (loads_recipe ok usage_is absent_is recipe _ no_recipe (λ parsed. apart ok usage_is absent_is parsed report _
        (loads_report ok usage_is absent_is report _ no_report (λ read. loads_inputs ok usage_is absent_is parsed _ (λ inputs.
        judged_is (explained explanation parsed inputs read) read.compare (first_fault parsed inputs read))))))
    judge_ends explanation [] = wrong
    judge_ends explanation (a ∷ []) = wrong
    judge_ends explanation (a ∷ b ∷ c ∷ more) = wrong

    module _ (no_list : IsTrue (ok ListRefused)) where
      true_is : (leading : List ℕ) (lines : List CompareLine) (fault : Option (Part × ℕ)) (next : Unit {0} → Plan) → Ends (next tt) → Ends (needs_true leading lines fault next)
      unfolding needs_true
      true_is leading lines None next after = either ok (all_equal lines) (next tt) (answers Differs (leading ++ compared_lines lines)) after (says ok Differs _ differs)
      true_is leading lines (Some (part, offset)) next after = says ok Refuted _ refuted

      two_files : (pair : Pair) (next : Unit {0} → Plan) → Ends (next tt) → Ends (needs_two_files pair next)
      unfolding needs_two_files
      two_files pair next after = either ok _ usage (next tt) wrong after

      one_audit : (number budget : ℕ) (pair : Pair) (next : Link → Plan) → ((link : Link) → Ends (next link)) → Ends (needs_audit number budget pair next)
      unfolding needs_audit
      one_audit number budget pair next after =
          two_files pair _ (loads_recipe_after ok usage_is absent_is (audit_line number) _ _ no_recipe (λ parsed. apart ok usage_is absent_is parsed _ _
          (loads_report_after ok usage_is absent_is (audit_line number) _ _ no_report (λ read. loads_inputs_within ok usage_is absent_is budget parsed _ (λ inputs.
          true_is (audit_line number) read.compare (first_fault parsed inputs read) _ (after _))))))

      audits : (links : List Link) (budget : ℕ) (pairs : List Pair) → Ends (chained links budget pairs)
      audits links budget [] = says ok Yes (chain_text links) yes_is
      audits links budget (pair ∷ pairs) =
          one_audit (length links + 1) budget pair _ (λ link. audits (links ++ link ∷ []) (budget_after budget link.inputs) pairs)

      lines_are : (pairs : List Pair) → Ends (chained_lines pairs)
      unfolding chained_lines
      lines_are [] = says ok ListRefused (list_line 1) no_list
      lines_are (pair ∷ pairs) = audits [] most_inputs (pair ∷ pairs)

      pub chain_ends : (words : List (List ℕ)) → Ends (chain_plan words)
      unfolding chain_files
      chain_ends (list ∷ []) =
          fits ok usage_is absent_is (is_file_word list) (chain_files list) (loads_list ok usage_is absent_is pair_of most_audits list chained_lines no_list lines_are)
      chain_ends [] = wrong
      chain_ends (a ∷ b ∷ more) = wrong

  -- ---- stages

  module _ (refused : IsTrue (ok RecipeRefused)) where
    stage_is : (recipe : RecipeContents) (word : List ℕ) → Ends (rested recipe word)
    unfolding rested
    stage_is recipe word = worded ok usage_is absent_is (stage_named recipe.stages word) _ (λ (stage : Stage). says ok Yes (rests_text recipe stage.name) yes_is)

    pub rests_ends : (words : List (List ℕ)) → Ends (rests_plan words)
    unfolding rests_files
    rests_ends (recipe ∷ stage ∷ []) =
        fits ok usage_is absent_is (is_file_word recipe && has_no_zero_byte stage) (rests_files recipe stage)
        (loads_recipe ok usage_is absent_is recipe _ refused (λ parsed. stage_is parsed stage))
    rests_ends [] = wrong
    rests_ends (a ∷ []) = wrong
    rests_ends (a ∷ b ∷ c ∷ more) = wrong

    module _ (runs : IsTrue (ok RunFailed)) (checks : IsTrue (ok CheckFailed)) where
      staged : (recipe : RecipeContents) (word : List ℕ) (next : ℕ → Plan) → ((count : ℕ) → Ends (next count)) → Ends (needs_stage recipe word next)
      staged recipe word next after = worded ok usage_is absent_is (stage_at recipe.stages word) next after

      earlier : (recipe : RecipeContents) (inputs : List (List ℕ)) (count : ℕ) (next : List Finished → Plan) → ((done : List Finished) → Ends (next done))
          → Ends (needs_earlier recipe inputs count next)
      earlier recipe inputs count next after =
          reads ok (done_in_order recipe inputs [] (take count recipe.stages)) _ next (λ not_done. stops ok recipe not_done.stage not_done.fault runs checks) after

      session : (recipe : RecipeContents) (inputs : List (List ℕ)) (done : List Finished) (next : SessionState → Plan) → ((state : SessionState) → Ends (next state))
          → Ends (needs_session recipe inputs done next)
      session recipe inputs done next after =
          worded ok usage_is absent_is (slice_get recipe.stages (length done)) _ (λ stage.
          reads ok (session_of recipe (contents inputs done) stage) _ next (λ why. stops ok recipe (suc (length done)) (Runs (run.Start why) 0) runs checks) after)

      pub step_ends : (words : List (List ℕ)) → Ends (step_plan words)
      unfolding step_stage
      step_ends (recipe ∷ stage ∷ []) =
          fits ok usage_is absent_is (are_step_words recipe stage) (step_stage recipe stage)
          (loads_recipe ok usage_is absent_is recipe _ refused (λ parsed. staged parsed stage _ (λ count. loads_inputs ok usage_is absent_is parsed _ (λ inputs.
          earlier parsed inputs count _ (λ done. session parsed inputs done _ (λ state. converses ok (talk reply_to state most_lines) yes_is))))))
      step_ends [] = wrong
      step_ends (a ∷ []) = wrong
      step_ends (a ∷ b ∷ c ∷ more) = wrong

      -- `left`, which tells by 10 that an exit left nothing there
      left_with : (why : RunCause) → IsTrue (ok (left_status why))
      left_with (run.Status status) = yes_is
      left_with (run.Start why) = runs
      left_with (run.Trap why) = runs
      left_with (run.Call number) = runs
      left_with run.NoOutput = runs
      left_with run.Spent = runs
      left_with run.Crowded = runs

      absent_with : (why : RunCause) → IsTrue (ok (absent_status why))
      absent_with (run.Status status) = absent_is
      absent_with (run.Start why) = runs
      absent_with (run.Trap why) = runs
      absent_with (run.Call number) = runs
      absent_with run.NoOutput = runs
      absent_with run.Spent = runs
      absent_with run.Crowded = runs

      left_is : (stage file out : List ℕ) (end : RunLeft) (content : Option (List ℕ)) → Ends (saved_left stage file out end content)
      left_is stage file out end (Some content) = saves ok out content _ (says ok (left_status end.cause) _ (left_with end.cause))
      left_is stage file out end None = says ok (absent_status end.cause) _ (absent_with end.cause)

      left_start : (recipe : RecipeContents) (number : ℕ) (stage : Stage) (file out : List ℕ) (start : Result GuestState Refusal) → Ends (left_by recipe number stage file out start)
      unfolding ends_left
      left_start recipe number stage file out (Ok start) =
          left_is stage.name file out (run_left start stage.steps) (bytes_left_at (run_left start stage.steps).files file)
      left_start recipe number stage file out (Err why) = stops ok recipe number (Runs (run.Start (start_cause why)) 0) runs checks

      left_stage : (recipe : RecipeContents) (inputs : List (List ℕ)) (done : List Finished) (file out : List ℕ) → Ends (left_of_stage recipe inputs done file out)
      unfolding left_of_stage
      left_stage recipe inputs done file out =
          worded ok usage_is absent_is (slice_get recipe.stages (length done)) _ (λ stage.
          left_start recipe (length done + 1) stage file out (start_stage recipe (contents inputs done) stage))

      pub left_ends : (words : List (List ℕ)) → Ends (left_plan words)
      unfolding left_files
      left_ends (recipe ∷ stage ∷ file ∷ out ∷ []) =
          fits ok usage_is absent_is (are_left_words recipe stage file out) (left_files recipe stage file out)
          (loads_recipe ok usage_is absent_is recipe _ refused (λ parsed. staged parsed stage _ (λ count. apart ok usage_is absent_is parsed out _
          (loads_inputs ok usage_is absent_is parsed _ (λ inputs. earlier parsed inputs count _ (λ done. left_stage parsed inputs done file out))))))
      left_ends [] = wrong
      left_ends (a ∷ []) = wrong
      left_ends (a ∷ b ∷ []) = wrong
      left_ends (a ∷ b ∷ c ∷ []) = wrong
      left_ends (a ∷ b ∷ c ∷ d ∷ e ∷ more) = wrong

      -- `cut` and `ends`
      other_file : (file name : List ℕ) (next : Unit {0} → Plan) → Ends (next tt) → Ends (needs_other file name next)
      unfolding needs_other
      other_file file name next after = either ok (is_one_file file name) usage (next tt) wrong after

      each : (judge : List ℕ → (Unit {0} → Plan) → Plan) → ((name : List ℕ) (next : Unit {0} → Plan) → Ends (next tt) → Ends (judge name next))
          → (prefix : List ℕ) (count : ℕ) (next : Unit {0} → Plan) → Ends (next tt) → Ends (each_name judge prefix count next)
      unfolding each_name
      each judge keeps prefix zero next after = after
      each judge keeps prefix (suc count) next after =
          each judge keeps prefix count (λ _. judge (piece_name prefix count) next) (keeps (piece_name prefix count) next after)

      begins : (recipe stage prefix : List ℕ) (next : Ready → Plan) → ((ready : Ready) → Ends (next ready)) → Ends (needs_ready recipe stage prefix next)
      unfolding needs_ready
      begins recipe stage prefix next after =
          each (needs_other recipe) (other_file recipe) prefix most_states _
          (loads_recipe ok usage_is absent_is recipe _ refused (λ parsed. staged parsed stage _ (λ count.
          each (needs_apart parsed) (apart ok usage_is absent_is parsed) prefix most_states _
          (loads_inputs ok usage_is absent_is parsed _ (λ inputs. earlier parsed inputs count _ (λ done.
          after _))))))

      run_is : (stage : Stage) (end : End) (guest : GuestState) (next : List ℕ → Plan) → ((bytes : List ℕ) → Ends (next bytes)) → Ends (run_ended stage end guest next)
      run_is stage (Exited status) guest next after =
          reads ok (output_left stage status guest.world) (λ why. run_failed stage why (guest.steps + 1)) next (λ why. says ok RunFailed _ runs) after
      run_is stage (Trapped why) guest next after = says ok RunFailed _ runs
      run_is stage (UnknownCall number) guest next after = says ok RunFailed _ runs

      module _ (many : IsTrue (ok TooManySegments)) where
        comes : (stage : Stage) (saved : ℕ) (end : Option (End × GuestState)) (to : GuestState) (next : GuestState → Plan) → Ends (next to) → Ends (came_on stage saved end to next)
        comes stage saved (Some (end, guest)) to next after = run_is stage end guest _ (λ bytes. says ok Yes _ yes_is)
        comes stage saved None to next after = either ok (nat_lt to.steps stage.steps) (next to) (run_failed stage run.Spent stage.steps) after (says ok RunFailed _ runs)

        pieces : (stage : Stage) (every : ℕ) (prefix : List ℕ) (left number : ℕ) (guest : GuestState) → Ends (saved_from stage every prefix left number guest)
        unfolding saved_from
        pieces stage every prefix zero number guest = says ok TooManySegments too_many_line many
        pieces stage every prefix (suc left) number guest =
            saves ok (piece_name prefix number) (second_text guest) _
            (comes stage (number + 1) (first_end guest (next_steps stage every guest)) (state_after guest (next_steps stage every guest))
            (λ to. saved_from stage every prefix left (number + 1) to) (pieces stage every prefix left (number + 1) (state_after guest (next_steps stage every guest))))

        cuts : (stage : Stage) (every : ℕ) (prefix : List ℕ) (start : Result GuestState Refusal) → Ends (cut_from stage every prefix start)
        cuts stage every prefix (Ok guest) = pieces stage every prefix most_states 0 guest
        cuts stage every prefix (Err why) = says ok RunFailed _ runs

        cut_stage : (every : ℕ) (prefix : List ℕ) (ready : Ready) → Ends (cut_ready every prefix ready)
        unfolding cut_ready
        cut_stage every prefix ready =
            worded ok usage_is absent_is (slice_get ready.recipe.stages (length ready.done)) _ (λ stage.
            cuts stage every prefix (start_stage ready.recipe (contents ready.inputs ready.done) stage))

        pub cut_ends : (words : List (List ℕ)) → Ends (cut_plan words)
        unfolding cut_files
        cut_ends (recipe ∷ stage ∷ every ∷ prefix ∷ []) =
            worded ok usage_is absent_is (as_steps every) _ (λ steps. fits ok usage_is absent_is (are_stage_words recipe stage prefix) (cut_files recipe stage steps prefix)
            (begins recipe stage prefix (cut_ready steps prefix) (cut_stage steps prefix)))
        cut_ends [] = wrong
        cut_ends (a ∷ []) = wrong
        cut_ends (a ∷ b ∷ []) = wrong
        cut_ends (a ∷ b ∷ c ∷ []) = wrong
        cut_ends (a ∷ b ∷ c ∷ d ∷ e ∷ more) = wrong

      module _ (refuted : IsTrue (ok Refuted)) where
        other_start : (offset : Option ℕ) (next : Plan) → Ends next → Ends (unless_other_start offset next)
        other_start None next after = after
        other_start (Some offset) next after = says ok Refuted _ refuted

        first_is : (stage : Stage) (start : Result GuestState Refusal) (read : Result GuestState StateFault) (next : Plan) → Ends next → Ends (needs_first stage start read next)
        first_is stage (Err why) read next after = says ok RunFailed _ runs
        first_is stage (Ok start) (Err why) next after = says ok Refuted _ refuted
        first_is stage (Ok start) (Ok first) next after = other_start (first_difference (second_text start) (second_text first)) next after

        last_is : (stage : Stage) (end : Option (End × GuestState)) → Ends (last_reported stage end)
        last_is stage (Some (end, guest)) = run_is stage end guest _ (λ bytes. says ok Yes _ yes_is)
        last_is stage None = says ok RunFailed _ runs

        both_ends : (ready : Ready) (first last : List ℕ) → Ends (ends_judged ready first last)
        unfolding ends_judged
        both_ends ready first last =
            worded ok usage_is absent_is (slice_get ready.recipe.stages (length ready.done)) _ (λ stage.
            first_is stage (start_stage ready.recipe (contents ready.inputs ready.done) stage) (state_parsed first) (needs_last stage (end_after last stage.steps))
            (reads ok (end_after last stage.steps) _ (last_reported stage) (λ why. says ok Refuted _ refuted) (last_is stage)))

        pub ends_ends : (words : List (List ℕ)) → Ends (ends_plan words)
        unfolding ends_files
        ends_ends (recipe ∷ stage ∷ prefix ∷ count ∷ []) =
            worded ok usage_is absent_is (as_states count) _ (λ states. fits ok usage_is absent_is (are_stage_words recipe stage prefix) (ends_files recipe stage prefix states)
            (begins recipe stage prefix _ (λ ready. loads ok usage_is absent_is (piece_name prefix 0) most_state _ (λ first.
            loads ok usage_is absent_is (piece_name prefix (states - 1)) most_state _ (λ last. both_ends ready first last)))))
        ends_ends [] = wrong
        ends_ends (a ∷ []) = wrong
        ends_ends (a ∷ b ∷ []) = wrong
        ends_ends (a ∷ b ∷ c ∷ []) = wrong
        ends_ends (a ∷ b ∷ c ∷ d ∷ e ∷ more) = wrong

  piece_is : IsTrue (ok Refuted) → (answer : Result ℕ SegmentFault) → Ends (piece_reported answer)
  piece_is refuted (Ok steps) = says ok Yes _ yes_is
  piece_is refuted (Err why) = says ok Refuted _ refuted

  pub segment_ends : IsTrue (ok Refuted) → (words : List (List ℕ)) → Ends (segment_plan words)
  unfolding segment_files
  segment_ends refuted (from ∷ to ∷ []) =
      fits ok usage_is absent_is (are_two_files from to) (segment_files from to)
      (loads ok usage_is absent_is from most_state _ (λ former. loads ok usage_is absent_is to most_state _ (λ latter. piece_is refuted (piece_of former latter))))
  segment_ends refuted [] = wrong
  segment_ends refuted (a ∷ []) = wrong
  segment_ends refuted (a ∷ b ∷ c ∷ more) = wrong

  -- ---- scripts

  module _ (no_script : IsTrue (ok ScriptRefused)) (no_list : IsTrue (ok ListRefused)) where
    script_is : (file : List ℕ) (next : ScriptContents → Plan) → ((parsed : ScriptContents) → Ends (next parsed)) → Ends (needs_script file next)
    script_is file next after =
        loads ok usage_is absent_is file most_script _ (λ text. reads ok (script_of text) _ next (λ fault. says ok ScriptRefused _ no_script) after)

    unlisted : (words : List (List ℕ)) (report : List ℕ) (next : Unit {0} → Plan) → Ends (next tt) → Ends (needs_unlisted words report next)
    unfolding needs_unlisted
    unlisted words report next after = either ok (list_any (λ word. is_one_file word report) words) usage (next tt) wrong after

    listed_is : (words : List (List ℕ)) (next : FilesListed → Plan) → ((listed : FilesListed) → Ends (next listed)) → Ends (needs_files words next)
    unfolding needs_files
    listed_is words next after = loads_all ok usage_is absent_is most_content most_total words (λ contents. next (and_files no_files words contents)) (λ contents. after (and_files no_files words contents))

    opens : (script list report : List ℕ) (next : ScriptContents → List (List ℕ) → Plan) → ((parsed : ScriptContents) (words : List (List ℕ)) → Ends (next parsed words))
        → Ends (needs_script_and_list script list report next)
    opens script list report next after =
        script_is script _ (λ parsed. loads_list ok usage_is absent_is file_line most_files list _ no_list (λ words. unlisted words report _ (after parsed words)))

    module _ (runs : IsTrue (ok RunFailed)) where
      fold_is : (report : List ℕ) (parsed : ScriptContents) (listed : FilesListed) (end : Folded) → Ends (folded_plan report parsed listed end)
      fold_is report parsed listed (RanAll ran world) =
          saves ok report (script_report_text (script_report parsed listed ran world)) _ (says ok Yes (done_line (length ran) (steps_of_commands ran)) yes_is)
      fold_is report parsed listed (Stopped number why step) = says ok RunFailed _ runs

      pub kaem_ends : (words : List (List ℕ)) → Ends (kaem_plan words)
      unfolding kaem_files
      kaem_ends (script ∷ list ∷ report ∷ steps ∷ []) =
          worded ok usage_is absent_is (as_steps steps) _ (λ most. fits ok usage_is absent_is (are_three_files script list report) (kaem_files script list report most)
          (opens script list report _ (λ parsed words. listed_is words _ (λ listed. fold_is report parsed listed (folded most listed.world parsed.commands)))))
      kaem_ends [] = wrong
      kaem_ends (a ∷ []) = wrong
      kaem_ends (a ∷ b ∷ []) = wrong
      kaem_ends (a ∷ b ∷ c ∷ []) = wrong
      kaem_ends (a ∷ b ∷ c ∷ d ∷ e ∷ more) = wrong

      left_by_command : (why : CommandCause) → IsTrue (ok (command_left_status why))
      left_by_command (cause.Status status) = yes_is
      left_by_command cause.NoProgram = runs
      left_by_command (cause.Elf refusal) = runs
      left_by_command (cause.Trap trap) = runs
      left_by_command (cause.Call number) = runs
      left_by_command cause.Spent = runs

      absent_by_command : (why : CommandCause) → IsTrue (ok (command_absent_status why))
      absent_by_command (cause.Status status) = absent_is
      absent_by_command cause.NoProgram = runs
      absent_by_command (cause.Elf refusal) = runs
      absent_by_command (cause.Trap trap) = runs
      absent_by_command (cause.Call number) = runs
      absent_by_command cause.Spent = runs

      content_is : (number : ℕ) (file out : List ℕ) (left : CommandLeft) (content : Option (List ℕ)) → Ends (saved_by number file out left content)
      content_is number file out left (Some content) = saves ok out content _ (says ok (command_left_status left.cause) _ (left_by_command left.cause))
      content_is number file out left None = says ok (command_absent_status left.cause) _ (absent_by_command left.cause)

      command_is : (number : ℕ) (file out : List ℕ) (left : LeftResult) → Ends (command_left_plan number file out left)
      unfolding command_saved_left
      command_is number file out (Ok left) = content_is number file out left (bytes_left_at left.files file)
      command_is number file out (Err stop) = says ok RunFailed _ runs

      pub kaem_left_ends : (words : List (List ℕ)) → Ends (kaem_left_plan words)
      kaem_left_ends words =
          worded ok usage_is absent_is (kaem_left_words words) kaem_left_files (λ read.
          script_is _ _ (λ parsed. worded ok usage_is absent_is _ _ (λ command. loads_list ok usage_is absent_is file_line most_files _ _ no_list (λ names.
          unlisted names _ _ (listed_is names _ (λ listed. command_is _ _ _ _))))))

    module _ (refuted : IsTrue (ok Refuted)) (no_report : IsTrue (ok ReportRefused)) where
      script_report_is : (file : List ℕ) (next : ScriptReport → Plan) → ((read : ScriptReport) → Ends (next read)) → Ends (needs_script_report file next)
      script_report_is file next after =
          loads ok usage_is absent_is file most_report _ (λ text. reads ok (script_report_of text) _ next (λ number. says ok ReportRefused (report_line number) no_report) after)

      verdict_is : (commands : ℕ) (fault : Option (ScriptPart × ℕ)) → Ends (script_verdict_plan commands fault)
      verdict_is commands None = says ok Yes _ yes_is
      verdict_is commands (Some (part, offset)) = says ok Refuted _ refuted

      pub kaem_verify_ends : (words : List (List ℕ)) → Ends (kaem_verify_plan words)
      unfolding kaem_verify_files
      kaem_verify_ends (script ∷ list ∷ report ∷ []) =
          fits ok usage_is absent_is (are_three_files script list report) (kaem_verify_files script list report)
          (opens script list report _ (λ parsed words. script_report_is report _ (λ read. listed_is words _ (λ listed.
          verdict_is (length parsed.commands) (first_script_fault parsed listed read)))))
      kaem_verify_ends [] = wrong
      kaem_verify_ends (a ∷ []) = wrong
      kaem_verify_ends (a ∷ b ∷ []) = wrong
      kaem_verify_ends (a ∷ b ∷ c ∷ d ∷ more) = wrong

  -- ---- the program itself

  pub help_ends : (words : List (List ℕ)) → Ends (help_plan words)
  help_ends [] = says ok Yes help_text yes_is
  help_ends (word ∷ []) = worded ok usage_is absent_is (command_named word) _ (λ one. says ok Yes (command_page one) yes_is)
  help_ends (a ∷ b ∷ more) = wrong

  pub version_ends : (words : List (List ℕ)) → Ends (version_plan words)
  version_ends [] = says ok Yes version_text yes_is
  version_ends (a ∷ more) = wrong
