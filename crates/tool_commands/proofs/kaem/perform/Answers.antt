use Rattle.std.proofs.Common.{ℕ, List, map, refl, subst, sym}
use Rattle.std.specs.Borrow.{Bor}
use Rattle.command_plan.proofs.Obtaining.{ends_before, ends_with, goes_on_with, on_words}
use Rattle.command_plan.proofs.Performing.{says}
use Rattle.command_plan.specs.Performs.{Performs}
use Rattle.kaem_script.specs.Fold.{folded}
use Rattle.kaem_script.specs.Reported.{end_of_script, script_ended}
use Rattle.tool_commands.proofs.ScriptEnds.{all-ran, one-stopped, where_stopped}
use Rattle.tool_commands.proofs.Worded.{kaems, over_kaem}
use Rattle.tool_commands.specs.Kaem.{kaem_files}
use Rattle.tool_commands.proofs.kaem.perform.Goals as goal

pub returns-in_default : goal.returns-in_default
returns-in_default g c = on_words over_kaem (kaems (map (λ (word : Bor (List ℕ)). word.now) c.args.words.now)) c.in_default.ensures (says _ _ _ c.usage.ensures)

pub returns-in_err-script : goal.returns-in_err-script
unfolding kaem_files
returns-in_err-script g c =
    on_words over_kaem (kaems (map (λ (word : Bor (List ℕ)). word.now) c.args.words.now)) c.in-Some.ensures
    (ends_with c.from_residual.ensures.1 (ends_before c.in_err-script.ensures))

pub returns-in_err-names : goal.returns-in_err-names
unfolding kaem_files
returns-in_err-names g c =
    on_words over_kaem (kaems (map (λ (word : Bor (List ℕ)). word.now) c.args.words.now)) c.in-Some.ensures
    (ends_with c.from_residual-in_err-names.ensures.1 (goes_on_with c.in_ok-script.ensures (ends_before c.in_err-names.ensures.obtained)))

pub returns-in_err-files : goal.returns-in_err-files
unfolding kaem_files
returns-in_err-files g c =
    on_words over_kaem (kaems (map (λ (word : Bor (List ℕ)). word.now) c.args.words.now)) c.in-Some.ensures
    (ends_with c.from_residual-in_err-files.ensures.1
    (goes_on_with c.in_ok-script.ensures (goes_on_with c.in_ok-names.ensures.obtained (ends_before c.in_err-files.ensures))))

pub returns-in-Ok : goal.returns-in-Ok
unfolding kaem_files
returns-in-Ok g c =
    on_words over_kaem (kaems (map (λ (word : Bor (List ℕ)). word.now) c.args.words.now)) c.in-Some.ensures
    (goes_on_with c.in_ok-script.ensures (goes_on_with c.in_ok-names.ensures.obtained (goes_on_with c.in_ok-files.ensures
    (subst (λ plan. Performs plan (g.S.Shelf.state c.fetch_files.new.shelf) (g.S.Shelf.state c.save.new.shelf) c.save.result)
    (sym (all-ran c.in-Some.words.report c.in_ok-script.script c.in_ok-files.files (folded c.in-Some.words.steps c.in_ok-files.files.world c.in_ok-script.script.commands) c.in-Ok.made
    (rw c.count.ensures.value at c.in-Ok.ensures.answer))) c.save.ensures))))

pub returns : goal.returns
unfolding kaem_files
returns g c =
    on_words over_kaem (kaems (map (λ (word : Bor (List ℕ)). word.now) c.args.words.now)) c.in-Some.ensures
    (let words = c.in-Some.words in
    let script = c.in_ok-script.script in
    let files = c.in_ok-files.files in
    let folds = folded words.steps files.world script.commands in
    goes_on_with c.in_ok-script.ensures (goes_on_with c.in_ok-names.ensures.obtained (goes_on_with c.in_ok-files.ensures
    (where_stopped _ (end_of_script c.count.result script files) (script_ended script files folds) c.in-Err.stop _ c.stopped.result
    (rw c.count.ensures.value refl) (one-stopped words.report script files folds) c.in-Err.ensures.answer c.stopped.ensures))))
