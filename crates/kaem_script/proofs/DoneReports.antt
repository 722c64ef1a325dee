-- The report of commands that all ran is well formed: each leaves files that keep their rules.
use Rattle.std.proofs.Common.{◌≡◌, ℕ, ◌+◌, ◌≤◌, ◌^◌, List, [], ◌∷◌, ◌++◌, length, Ok, Err, refl, sym, ap, subst, arith, All, length-append}
use Rattle.std.specs.FinMap as fin
use Rattle.std.proofs.lemmas.List.{length-map}
use Rattle.std.proofs.lemmas.List.Elements.{All-head, All-map, All-nil, All-push, All-tail, All-weaker}
use Rattle.ddc_base.specs.Limits.{most_steps}
use Rattle.mem_files.specs.Names.{bytes_cmp}
use Rattle.mem_files.specs.Outputs.{AtPath, left}
use Rattle.mem_files.specs.Sound.{AreBytes, IsSound}
use Rattle.mem_files.specs.World.{World}
use Rattle.mem_files.proofs.Leftovers.{left-are, output-is}
use Rattle.guest_run.specs.Setting.{IsBox, IsBoxFile, IsText}
use Rattle.guest_run.proofs.Endings.{run-sound}
use Rattle.report.specs.Script.Reports.{IsCommandLine, IsScriptReport}
use Rattle.kaem_script.specs.FilesListed.{FilesListed, IsList}
use Rattle.kaem_script.specs.Fold.{CommandResult, RanAll, Ran, after_command, command, command_box, fold_from, folded, program_name}
use Rattle.kaem_script.specs.Kept.{IsCommand, IsScript, IsWord}
use Rattle.kaem_script.specs.Reported.{command_line, script_report}
use Rattle.kaem_script.specs.Script.{ScriptContents}
use Rattle.kaem_script.proofs.Renewing.{left-files}
use Rattle.kaem_script.proofs.Runs.{is-run}
use Rattle.kaem_script.proofs.Starting.{entries-left}
use Rattle.kaem_script.proofs.WellFormed.{good-line, good-report}

-- a command of bytes over files that keep their rules starts with a valid box
box-is : (w : World) (words : List (List ℕ)) → IsSound w → IsCommand words → All AreBytes words → IsBox (command_box w words)
unfolding command_box
box-is w words sound is bytes =
    let entries = entries-left w sound in
    record {
      args = All-weaker IsWord IsText (λ word good. good.no_zero) words is.line.each;
      arg_bytes = bytes;
      env = All-nil IsText;
      env_bytes = All-nil AreBytes;
      files = subst (All IsBoxFile) (sym entries) (left-files w sound);
      few = omega (arith, fin.len-entries {R = bytes_cmp} (fin.from_entries (left w)), ap length entries, (left-are w sound).few);
      heap = omega arith;
    }

command-sound : (most : ℕ) (w : World) (words : List (List ℕ)) (ran : Ran) → IsSound w → IsCommand words → All AreBytes words → command most w words ≡ Ok ran → IsSound ran.world
command-sound most w words ran sound is bytes runs =
    let run = is-run most w words ran runs in
    run-sound run.program (command_box w words) ran.steps 0 ran.world (output-is w (AtPath (program_name words)) run.program sound run.there).bytes
    (box-is w words sound is bytes) run.run

-- what commands that all ran leave: files that keep their rules, and a good line for each
record Leave (count : ℕ) (all : List Ran) (last : World) : Type 0 where
  sound : IsSound last
  lines : All (λ ran. IsCommandLine (command_line ran)) all
  length_is : length all ≡ count

fold-leaves : (most : ℕ) (done : List Ran) (w : World) (commands : List (List (List ℕ))) (all : List Ran) (last : World) → most ≤ most_steps → IsSound w
    → All IsCommand commands → All (All AreBytes) commands → All (λ ran. IsCommandLine (command_line ran)) done → fold_from most done w commands ≡ RanAll all last
    → Leave (length done + length commands) all last
fold-leaves most done w [] all last few sound are bytes lines is =
    let one : done ≡ all = cc in
    let two : w ≡ last = cc in
    record { sound = subst IsSound two sound; lines = subst (All (λ ran. IsCommandLine (command_line ran))) one lines; length_is = omega (arith, ap length one) }
fold-leaves most done w (words ∷ commands) all last few sound are bytes lines is =
    on (command most w words) refl
    (λ ran after good. fold-leaves most (done ++ ran ∷ []) ran.world commands all last few after (All-tail IsCommand words commands are)
    (All-tail (All AreBytes) words commands bytes) (All-push (λ ran. IsCommandLine (command_line ran)) done ran lines good)) is
  where
    on : (c : CommandResult) → command most w words ≡ c
        → ((ran : Ran) → IsSound ran.world → IsCommandLine (command_line ran) → fold_from most (done ++ ran ∷ []) ran.world commands ≡ RanAll all last
        → Leave (length (done ++ ran ∷ []) + length commands) all last)
        → after_command (length done + 1) c (λ ran. fold_from most (done ++ ran ∷ []) ran.world commands) ≡ RanAll all last
        → Leave (length done + length (words ∷ commands)) all last
    on (Err why) was further here = absurd cc
    on (Ok ran) was further here =
        let after = command-sound most w words ran sound (All-head IsCommand words commands are) (All-head (All AreBytes) words commands bytes) was in
        let rest = further ran after (good-line most w ran.world words (command_line ran) few after (was, refl)) here in
        record { sound = rest.sound; lines = rest.lines; length_is = omega (arith, rest.length_is, length-append done (ran ∷ [])) }

-- a script of bytes over listed files that keep their rules
pub done-report : (most : ℕ) (parsed : ScriptContents) (listed : FilesListed) (ran : List Ran) (world : World) → most ≤ most_steps → IsScript parsed → All (All AreBytes) parsed.commands
    → IsList listed → IsSound listed.world → folded most listed.world parsed.commands ≡ RanAll ran world → IsScriptReport (script_report parsed listed ran world)
unfolding folded script_report
done-report most parsed listed ran world few is bytes list sound all_ran =
    let leave = fold-leaves most [] listed.world parsed.commands ran world few sound is.commands.each bytes (All-nil (λ ran. IsCommandLine (command_line ran))) all_ran in
    good-report (script_report parsed listed ran world) listed world is.digest list sound leave.sound refl refl
    (All-map IsCommandLine command_line ran leave.lines) (omega (arith, length-map ran command_line, leave.length_is, is.commands.few))
