-- A script's report without a fault is the one that its commands give.
use Rattle.std.proofs.Common.{◌≡◌, ℕ, zero, suc, ◌+◌, ◌≤◌, ◌^◌, ◌==◌, ◌&&◌, Bool, true, false, cond, Option, None, Some, Result, Ok, Err, List, [], ◌∷◌, ◌++◌, length, map, append_assoc, refl, sym, ap, subst, ◌∙◌, arith}
use Rattle.std.specs.Bool.{Decides}
use Rattle.std.specs.Prelude.{bytes_eq, nat_le, option_map}
use Rattle.std.proofs.lemmas.Bool.{and_parts, and_from, eqb-true, eq-eqb, leb-true, le-leb}
use Rattle.std.proofs.lemmas.List.{append-nil}
use Rattle.std.proofs.lemmas.Slice.Eq.{bytes_eq-Decides}
use Rattle.ddc_base.specs.Limits.{most_steps}
use Rattle.sha2.specs.Sha256.{sha256}
use Rattle.mem_files.specs.World.{World}
use Rattle.mem_files.specs.Outputs.{left}
use Rattle.guest_run.specs.Run.{End, Exited, end_at}
use Rattle.guest_run.specs.State.{GuestState}
use Rattle.guest_run.proofs.RunLaws.{no_end_at-zero}
use Rattle.report.specs.declared.types.LeftLine.{LeftLine}
use Rattle.report.specs.declared.types.Mark.{Mark}
use Rattle.report.specs.declared.script.types.CommandLine.{CommandLine}
use Rattle.report.specs.declared.script.types.ScriptReport.{ScriptReport}
use Rattle.kaem_script.specs.declared.verdict.ScriptPart.{ScriptPart}
use Rattle.kaem_script.specs.declared.verdict.ScriptPart.TheVariants as part
use Rattle.report.specs.Marks.{is_mark_of}
use Rattle.kaem_script.specs.Faults.{by_streams, commands_fault, fault_after_command, files_fault, first_script_fault, fault_or, left_after_steps, left_at_step, left_fault, replayed_command, says_file, says_files, says_streams, wrong_file}
use Rattle.kaem_script.specs.Fold.{CommandResult, RanAll, Folded, Ran, Stopped, after_command, command, fold_from, folded}
use Rattle.kaem_script.specs.FilesListed.{FilesListed, listed_files}
use Rattle.report.specs.Marks.{mark_of}
use Rattle.kaem_script.specs.Reported.{end_of_script, command_line, script_ended, marked, script_report}
use Rattle.kaem_script.specs.Script.{ScriptContents}
use Rattle.kaem_script.proofs.Runs.{is-command, is-run}

-- ---- what the tests of lines say

both : {P Q : Type 0} (a b : Bool) → Decides a P → Decides b Q → Decides (a && b) (P × Q)
both a b p q = (λ t. let parts = and_parts a b t in (p.0 parts.0, q.0 parts.1), λ h. and_from a b (p.1 h.0) (q.1 h.1))

changed : {P Q : Type 0} (a : Bool) → Decides a P → (P → Q) → (Q → P) → Decides a Q
changed a p to from = (λ t. to (p.0 t), λ q. p.1 (from q))

number-Decides : (x y : ℕ) → Decides (x == y) (x ≡ y)
number-Decides x y = (eqb-true x y, eq-eqb x y)

mark-Decides : (mark : Mark) (bytes : List ℕ) → Decides (is_mark_of mark bytes) (mark ≡ mark_of bytes)
unfolding is_mark_of
mark-Decides mark bytes =
    changed (mark.length == length bytes && bytes_eq mark.digest.0 (sha256 bytes))
    (both (mark.length == length bytes) (bytes_eq mark.digest.0 (sha256 bytes)) (number-Decides mark.length (length bytes)) (bytes_eq-Decides mark.digest.0 (sha256 bytes)))
    (λ h. λ i. record { length = h.0 i; digest = record { 0 = h.1 i } })
    (λ e. (ap (λ (m : Mark). m.length) e, ap (λ (m : Mark). m.digest.0) e))

file-Decides : (line : LeftLine) (file : List ℕ × List ℕ) → Decides (says_file line file) (line ≡ marked file)
file-Decides line file =
    changed (says_file line file)
    (both (bytes_eq line.name file.0) (is_mark_of line.mark file.1) (bytes_eq-Decides line.name file.0) (mark-Decides line.mark file.1))
    (λ h. λ i. record { name = h.0 i; mark = h.1 i })
    (λ e. (ap (λ (l : LeftLine). l.name) e, ap (λ (l : LeftLine). l.mark) e))

-- ---- files

wrong-none : (b : Bool) (rest : Option ℕ) (number : ℕ) → cond b rest (Some number) ≡ None → (b ≡ true) × (rest ≡ None)
wrong-none true rest number e = (refl, e)
wrong-none false rest number e = absurd cc

files-reported : (number : ℕ) (files : List (List ℕ × List ℕ)) (lines : List LeftLine) → wrong_file number files lines ≡ None → lines ≡ map marked files
files-reported number [] [] e = refl
files-reported number [] (line ∷ lines) e = absurd cc
files-reported number (file ∷ files) [] e = absurd cc
files-reported number (file ∷ files) (line ∷ lines) e =
    let parts = wrong-none (says_file line file) (wrong_file (number + 1) files lines) number e in
    let first = (file-Decides line file).0 parts.0 in
    let rest = files-reported (number + 1) files lines parts.1 in
    λ i. first i ∷ rest i

reported-files : (number : ℕ) (files : List (List ℕ × List ℕ)) → wrong_file number files (map marked files) ≡ None
reported-files number [] = refl
reported-files number (file ∷ files) = rw ((file-Decides (marked file) file).1 refl) (reported-files (number + 1) files)

left-reported : (lines : List LeftLine) (files : List (List ℕ × List ℕ)) → says_files lines files ≡ true → lines ≡ map marked files
left-reported [] [] e = refl
left-reported [] (file ∷ files) e = absurd cc
left-reported (line ∷ lines) [] e = absurd cc
left-reported (line ∷ lines) (file ∷ files) e =
    let parts = and_parts (says_file line file) (says_files lines files) e in
    let first = (file-Decides line file).0 parts.0 in
    let rest = left-reported lines files parts.1 in
    λ i. first i ∷ rest i

reported-left : (files : List (List ℕ × List ℕ)) → says_files (map marked files) files ≡ true
reported-left [] = refl
reported-left (file ∷ files) = and_from (says_file (marked file) file) (says_files (map marked files) files) ((file-Decides (marked file) file).1 refl) (reported-left files)

-- ---- one command, within more steps or fewer

some-step : (guest : GuestState) (end : End × GuestState) (steps : ℕ) → end_at guest steps ≡ Some end → 1 ≤ steps
some-step guest end zero is = absurd (no_end_at-zero guest end is)
some-step guest end (suc count) is = omega arith

within : (most other : ℕ) (world : World) (words : List (List ℕ)) (ran : Ran) → command most world words ≡ Ok ran → ran.steps ≤ other → command other world words ≡ Ok ran
within most other world words ran is fits =
    let run = is-run most world words ran is in
    is-command other world words ran (record { program = run.program; there = run.there; run = run.run; within = fits })

taken : (most : ℕ) (world : World) (words : List (List ℕ)) (ran : Ran) → command most world words ≡ Ok ran → (1 ≤ ran.steps) × (ran.steps ≤ most)
taken most world words ran is =
    let run = is-run most world words ran is in
    (some-step run.run.start (Exited 0, run.run.last) ran.steps run.run.ends, run.within)

-- what stands after a command's line that is right
record Replays (world : World) (words : List (List ℕ)) (line : CommandLine) (after : World) : Type 0 where
  ran : Ran
  run : command most_steps world words ≡ Ok ran
  line_is : line ≡ command_line ran
  leaves : ran.world ≡ after

same-world : (b : Bool) (found after : World) → cond b (Some found) None ≡ Some after → (b ≡ true) × (found ≡ after)
same-world true found after e = (refl, cc)
same-world false found after e = absurd cc

right-streams : (b : Bool) (found after : World) → cond b (Ok found) (Err part.Streams) ≡ Ok after → (b ≡ true) × (found ≡ after)
right-streams true found after e = (refl, cc)
right-streams false found after e = absurd cc

record LeftAt (world : World) (words : List (List ℕ)) (step : ℕ) (after : World) : Type 0 where
  ran : Ran
  run : command most_steps world words ≡ Ok ran
  step_is : ran.steps ≡ step
  leaves : ran.world ≡ after

left-run : (world : World) (words : List (List ℕ)) (step : ℕ) (after : World) → left_at_step world words step ≡ Some after → LeftAt world words step after
unfolding left_at_step
left-run world words step after is = by_limits (nat_le 1 step && nat_le step most_steps) refl is
  where
    by_result : (c : CommandResult) → command step world words ≡ c → step ≤ most_steps → left_after_steps step c ≡ Some after → LeftAt world words step after
    by_result (Err why) was few here = absurd cc
    by_result (Ok ran) was few here =
        let same = same-world (ran.steps == step) ran.world after here in
        let steps_are = taken step world words ran was in
        record { ran = ran; run = within step most_steps world words ran was (omega (arith, steps_are.1, few)); step_is = eqb-true ran.steps step same.0; leaves = same.1 }

    by_limits : (b : Bool) → (nat_le 1 step && nat_le step most_steps) ≡ b → cond b (left_after_steps step (command step world words)) None ≡ Some after
        → LeftAt world words step after
    by_limits false limits here = absurd cc
    by_limits true limits here =
        by_result (command step world words) refl (leb-true step most_steps (and_parts (nat_le 1 step) (nat_le step most_steps) limits).1) here

replayed_command-run : (world : World) (words : List (List ℕ)) (line : CommandLine) (after : World) → replayed_command world words line ≡ Ok after → Replays world words line after
unfolding replayed_command
replayed_command-run world words line after is = on (left_at_step world words line.steps) refl is
  where
    on : (o : Option World) → left_at_step world words line.steps ≡ o → by_streams line o ≡ Ok after → Replays world words line after
    on None was here = absurd cc
    on (Some found) was here =
        let right = right-streams (says_streams line found) found after here in
        let marks = and_parts (is_mark_of line.stream1 found.stream1) (is_mark_of line.stream2 found.stream2) right.0 in
        let found_is = left-run world words line.steps found was in
        let one : line.stream1 ≡ mark_of found_is.ran.world.stream1 =
        (mark-Decides line.stream1 found.stream1).0 marks.0 ∙ ap (λ (w : World). mark_of w.stream1) (sym found_is.leaves) in
        let two : line.stream2 ≡ mark_of found_is.ran.world.stream2 =
        (mark-Decides line.stream2 found.stream2).0 marks.1 ∙ ap (λ (w : World). mark_of w.stream2) (sym found_is.leaves) in
        record {
          ran = found_is.ran;
          run = found_is.run;
          line_is = λ i. record { steps = sym found_is.step_is i; stream1 = one i; stream2 = two i };
          leaves = found_is.leaves ∙ right.1;
        }

run-replayed_command : (world : World) (words : List (List ℕ)) (ran : Ran) → command most_steps world words ≡ Ok ran → replayed_command world words (command_line ran) ≡ Ok ran.world
unfolding replayed_command left_at_step
run-replayed_command world words ran is =
    let steps_are = taken most_steps world words ran is in
    let exact : command ran.steps world words ≡ Ok ran = within most_steps ran.steps world words ran is (omega arith) in
    let limits : (nat_le 1 ran.steps && nat_le ran.steps most_steps) ≡ true =
    and_from (nat_le 1 ran.steps) (nat_le ran.steps most_steps) (le-leb 1 ran.steps steps_are.0) (le-leb ran.steps most_steps steps_are.1) in
    let marks : says_streams (command_line ran) ran.world ≡ true =
    and_from (is_mark_of (mark_of ran.world.stream1) ran.world.stream1) (is_mark_of (mark_of ran.world.stream2) ran.world.stream2)
    ((mark-Decides (mark_of ran.world.stream1) ran.world.stream1).1 refl) ((mark-Decides (mark_of ran.world.stream2) ran.world.stream2).1 refl) in
    ap (λ (b : Bool). by_streams (command_line ran) (cond b (left_after_steps ran.steps (command ran.steps world words)) None)) limits
    ∙ ap (λ (c : CommandResult). by_streams (command_line ran) (left_after_steps ran.steps c)) exact
    ∙ ap (λ (b : Bool). by_streams (command_line ran) (cond b (Some ran.world) None)) (eq-eqb ran.steps ran.steps refl)
    ∙ ap (λ (b : Bool). cond b (Ok ran.world) (Err part.Streams)) marks

-- ---- all commands

-- these commands ran one after the other from these files on, within so many steps each, and left the latter
abbrev AreRun : ℕ → World → List (List (List ℕ)) → List Ran → World → Type 0
AreRun most world [] [] last = world ≡ last
AreRun most world (words ∷ commands) (ran ∷ rans) last = (command most world words ≡ Ok ran) × AreRun most ran.world commands rans last
AreRun most world _ _ last = ⊥

within-all : (most other : ℕ) (world : World) (commands : List (List (List ℕ))) (rans : List Ran) (last : World) → most ≤ other
    → AreRun most world commands rans last → AreRun other world commands rans last
within-all most other world [] [] last more are = are
within-all most other world [] (ran ∷ rans) last more are = absurd are
within-all most other world (words ∷ commands) [] last more are = absurd are
within-all most other world (words ∷ commands) (ran ∷ rans) last more are =
    let steps_are = taken most world words ran are.0 in
    (within most other world words ran are.0 (omega (arith, steps_are.1, more)), within-all most other ran.world commands rans last more are.1)

-- how a fold that finished went
record Went (most : ℕ) (done : List Ran) (world : World) (commands : List (List (List ℕ))) (all : List Ran) (last : World) : Type 0 where
  rans : List Ran
  all_are : all ≡ done ++ rans
  are : AreRun most world commands rans last

folded-run : (most : ℕ) (done : List Ran) (world : World) (commands : List (List (List ℕ))) (all : List Ran) (last : World)
    → fold_from most done world commands ≡ RanAll all last → Went most done world commands all last
folded-run most done world [] all last is =
    let one : done ≡ all = cc in
    let two : world ≡ last = cc in
    record { rans = []; all_are = sym one ∙ sym (append-nil done); are = two }
folded-run most done world (words ∷ commands) all last is =
    on (command most world words) refl (λ ran. folded-run most (done ++ ran ∷ []) ran.world commands all last) is
  where
    on : (c : CommandResult) → command most world words ≡ c
        → ((ran : Ran) → fold_from most (done ++ ran ∷ []) ran.world commands ≡ RanAll all last → Went most (done ++ ran ∷ []) ran.world commands all last)
        → after_command (length done + 1) c (λ ran. fold_from most (done ++ ran ∷ []) ran.world commands) ≡ RanAll all last
        → Went most done world (words ∷ commands) all last
    on (Err why) was further here = absurd cc
    on (Ok ran) was further here =
        let rest = further ran here in
        record { rans = ran ∷ rest.rans; all_are = rest.all_are ∙ append_assoc done (ran ∷ []) rest.rans; are = (was, rest.are) }

run-folded : (most : ℕ) (done : List Ran) (world : World) (commands : List (List (List ℕ))) (rans : List Ran) (last : World)
    → AreRun most world commands rans last → fold_from most done world commands ≡ RanAll (done ++ rans) last
run-folded most done world [] [] last are = λ i. RanAll (sym (append-nil done) i) (are i)
run-folded most done world [] (ran ∷ rans) last are = absurd are
run-folded most done world (words ∷ commands) [] last are = absurd are
run-folded most done world (words ∷ commands) (ran ∷ rans) last are =
    ap (λ (c : CommandResult). after_command (length done + 1) c (λ r. fold_from most (done ++ r ∷ []) r.world commands)) are.0
    ∙ run-folded most (done ++ ran ∷ []) ran.world commands rans last are.1
    ∙ ap (λ (all : List Ran). RanAll all last) (append_assoc done (ran ∷ []) rans)

-- what stands after lines without a fault
record Right (f : World → Option (ScriptPart × ℕ)) (world : World) (commands : List (List (List ℕ))) (lines : List CommandLine) : Type 0 where
  rans : List Ran
  last : World
  are : AreRun most_steps world commands rans last
  lines_are : lines ≡ map command_line rans
  rest : f last ≡ None

lines-right : (f : World → Option (ScriptPart × ℕ)) (number : ℕ) (world : World) (commands : List (List (List ℕ))) (lines : List CommandLine)
    → commands_fault f number world commands lines ≡ None → Right f world commands lines
lines-right f number world [] [] is = record { rans = []; last = world; are = refl; lines_are = refl; rest = is }
lines-right f number world [] (line ∷ lines) is = absurd cc
lines-right f number world (words ∷ commands) [] is = absurd cc
lines-right f number world (words ∷ commands) (line ∷ lines) is =
    on (replayed_command world words line) refl (λ after. lines-right f (number + 1) after commands lines) is
  where
    on : (r : Result World ScriptPart) → replayed_command world words line ≡ r
        → ((after : World) → commands_fault f (number + 1) after commands lines ≡ None → Right f after commands lines)
        → fault_after_command number r (λ after. commands_fault f (number + 1) after commands lines) ≡ None → Right f world (words ∷ commands) (line ∷ lines)
    on (Err why) was further here = absurd cc
    on (Ok after) was further here =
        let rest = further after here in
        let first = replayed_command-run world words line after was in
        let are : AreRun most_steps first.ran.world commands rest.rans rest.last = subst (λ (w : World). AreRun most_steps w commands rest.rans rest.last) (sym first.leaves) rest.are in
        let line_is = first.line_is in
        let lines_are = rest.lines_are in
        record { rans = first.ran ∷ rest.rans; last = rest.last; are = (first.run, are); lines_are = λ i. line_is i ∷ lines_are i; rest = rest.rest }

right-lines : (f : World → Option (ScriptPart × ℕ)) (number : ℕ) (world : World) (commands : List (List (List ℕ))) (rans : List Ran) (last : World)
    → AreRun most_steps world commands rans last → f last ≡ None → commands_fault f number world commands (map command_line rans) ≡ None
right-lines f number world [] [] last are rest = ap f are ∙ rest
right-lines f number world [] (ran ∷ rans) last are rest = absurd are
right-lines f number world (words ∷ commands) [] last are rest = absurd are
right-lines f number world (words ∷ commands) (ran ∷ rans) last are rest =
    ap (λ (r : Result World ScriptPart). fault_after_command number r (λ after. commands_fault f (number + 1) after commands (map command_line rans)))
    (run-replayed_command world words ran are.0)
    ∙ right-lines f (number + 1) ran.world commands rans last are.1 rest

-- ---- the whole report

left-none : (lines : List LeftLine) (world : World) → left_fault lines world ≡ None → says_files lines (left world) ≡ true
left-none lines world is = on (says_files lines (left world)) is
  where
    on : (b : Bool) → cond {A = Option (ScriptPart × ℕ)} b None (Some (part.Left, 0)) ≡ None → b ≡ true
    on true e = refl
    on false e = absurd cc

none-of-both : (first second : Option (ScriptPart × ℕ)) → fault_or first second ≡ None → (first ≡ None) × (second ≡ None)
none-of-both None second e = (refl, e)
none-of-both (Some fault) second e = absurd cc

no-number : (o : Option ℕ) → option_map {U = ScriptPart × ℕ} (λ number. (part.File, number)) o ≡ None → o ≡ None
no-number None e = refl
no-number (Some number) e = absurd cc

headed : (b : Bool) (rest : Option (ScriptPart × ℕ)) → cond b rest (Some (part.Header, 0)) ≡ None → (b ≡ true) × (rest ≡ None)
headed true rest e = (refl, e)
headed false rest e = absurd cc

pub no_fault_reports : (script : ScriptContents) (listed : FilesListed) (report : ScriptReport) → first_script_fault script listed report ≡ None → end_of_script most_steps script listed ≡ Ok report
unfolding first_script_fault folded script_report
no_fault_reports script listed report is =
    let files = files_fault (listed_files listed) report.files in
    let commands = commands_fault (left_fault report.left) 1 listed.world script.commands report.commands in
    let head = headed (bytes_eq script.digest.0 report.script.0) (fault_or files commands) is in
    let parts = none-of-both files commands head.1 in
    let digest_is = (bytes_eq-Decides script.digest.0 report.script.0).0 head.0 in
    let files_are = files-reported 1 (listed_files listed) report.files (no-number (wrong_file 1 (listed_files listed) report.files) parts.0) in
    let right = lines-right (left_fault report.left) 1 listed.world script.commands report.commands parts.1 in
    let left_is = left-reported report.left (left right.last) (left-none report.left right.last right.rest) in
    let lines_are = right.lines_are in
    ap (script_ended script listed) (run-folded most_steps [] listed.world script.commands right.rans right.last right.are)
    ∙ (λ i. Ok (record { script = record { 0 = digest_is i }; files = sym files_are i; commands = sym lines_are i; left = sym left_is i }))

-- the report of an audit that is done
record IsDone (most : ℕ) (script : ScriptContents) (listed : FilesListed) (report : ScriptReport) : Type 0 where
  rans : List Ran
  last : World
  are : AreRun most listed.world script.commands rans last
  is : script_report script listed rans last ≡ report

done-is : (most : ℕ) (script : ScriptContents) (listed : FilesListed) (report : ScriptReport) → end_of_script most script listed ≡ Ok report → IsDone most script listed report
unfolding folded
done-is most script listed report is = on (folded most listed.world script.commands) refl is
  where
    on : (f : Folded) → folded most listed.world script.commands ≡ f → script_ended script listed f ≡ Ok report → IsDone most script listed report
    on (Stopped number why step) was here = absurd cc
    on (RanAll all last) was here =
        let went = folded-run most [] listed.world script.commands all last was in
        let are : AreRun most listed.world script.commands all last = subst (λ (rans : List Ran). AreRun most listed.world script.commands rans last) (sym went.all_are) went.are in
        record { rans = all; last = last; are = are; is = cc }

-- a report that the commands give has no fault
run_has_none : (script : ScriptContents) (listed : FilesListed) (rans : List Ran) (last : World) → AreRun most_steps listed.world script.commands rans last
    → first_script_fault script listed (script_report script listed rans last) ≡ None
unfolding first_script_fault script_report
run_has_none script listed rans last are =
    let lines = map command_line rans in
    let at_end = left_fault (map marked (left last)) in
    let none_left : at_end last ≡ None = ap (λ (b : Bool). cond b None (Some (part.Left, 0))) (reported-left (left last)) in
    ap (λ (b : Bool). cond b (fault_or (files_fault (listed_files listed) (map marked (listed_files listed))) (commands_fault at_end 1 listed.world script.commands lines))
    (Some (part.Header, 0))) ((bytes_eq-Decides script.digest.0 script.digest.0).1 refl)
    ∙ ap (λ (o : Option ℕ). fault_or (option_map (λ number. (part.File, number)) o) (commands_fault at_end 1 listed.world script.commands lines)) (reported-files 1 (listed_files listed))
    ∙ right-lines at_end 1 listed.world script.commands rans last are none_left

pub reported_without_fault : (most : ℕ) (script : ScriptContents) (listed : FilesListed) (report : ScriptReport) → most ≤ most_steps → end_of_script most script listed ≡ Ok report
    → first_script_fault script listed report ≡ None
reported_without_fault most script listed report few is =
    let done = done-is most script listed report is in
    ap (first_script_fault script listed) (sym done.is)
    ∙ run_has_none script listed done.rans done.last (within-all most most_steps listed.world script.commands done.rans done.last few done.are)
