use Rattle.std.proofs.Common.{ℕ, List, map, subst, sym}
use Rattle.std.specs.Borrow.{Bor}
use Rattle.audit_rules.proofs.ValidPositions.{all-made}
use Rattle.audit_run.specs.Stage.Rules.{AreMade}
use Rattle.command_plan.proofs.Obtaining.{ends_before, ends_with, goes_on_with, on_words}
use Rattle.command_plan.proofs.Performing.{says, wants_memory}
use Rattle.stage_commands.specs.Ends.{ends_files}
use Rattle.stage_commands.proofs.Judging.{judged_none, judged_one, says_same}
use Rattle.stage_commands.proofs.Worded.{ends_come, over_ends}
use Rattle.stage_commands.proofs.ends.perform.Goals as goal

pub returns-in_default : goal.returns-in_default
returns-in_default g c = on_words over_ends (ends_come (map (λ (word : Bor (List ℕ)). word.now) c.args.words.now)) c.in_default.ensures (says _ _ _ c.usage.ensures)

pub box_of-requires-clause-done : goal.box_of-requires-clause-done
box_of-requires-clause-done g c =
    subst AreMade (sym c.as_slice-done.ensures) (all-made c.in_ok-ready.ready.recipe.stages c.in_ok-ready.ready.done c.in_ok-ready.ensures.ready.done.each)

pub returns-in_err-ready : goal.returns-in_err-ready
unfolding ends_files
returns-in_err-ready g c =
    on_words over_ends (ends_come (map (λ (word : Bor (List ℕ)). word.now) c.args.words.now)) c.in-Some.ensures
    (ends_with c.from_residual.ensures.1 (ends_before c.in_err-ready.ensures.obtained))

pub returns-in_err-first : goal.returns-in_err-first
unfolding ends_files
returns-in_err-first g c =
    on_words over_ends (ends_come (map (λ (word : Bor (List ℕ)). word.now) c.args.words.now)) c.in-Some.ensures
    (ends_with c.from_residual-in_err-first.ensures.1 (goes_on_with c.in_ok-ready.ensures.obtained (ends_before c.in_err-first.ensures)))

pub returns-in_err-last : goal.returns-in_err-last
unfolding ends_files
returns-in_err-last g c =
    on_words over_ends (ends_come (map (λ (word : Bor (List ℕ)). word.now) c.args.words.now)) c.in-Some.ensures
    (ends_with c.from_residual-in_err-last.ensures.1
    (goes_on_with c.in_ok-ready.ensures.obtained (goes_on_with c.in_ok-first.ensures (ends_before (rw c.count.ensures.value at c.in_err-last.ensures)))))

pub returns-in_err-given : goal.returns-in_err-given
unfolding ends_files
returns-in_err-given g c =
    on_words over_ends (ends_come (map (λ (word : Bor (List ℕ)). word.now) c.args.words.now)) c.in-Some.ensures
    (ends_with c.from_residual-in_err-given.ensures.1
    (goes_on_with c.in_ok-ready.ensures.obtained (goes_on_with c.in_ok-first.ensures (goes_on_with (rw c.count.ensures.value at c.in_ok-last.ensures)
    (wants_memory _ _)))))

pub returns-in-None : goal.returns-in-None
unfolding ends_files
returns-in-None g c =
    on_words over_ends (ends_come (map (λ (word : Bor (List ℕ)). word.now) c.args.words.now)) c.in-Some.ensures
    (goes_on_with c.in_ok-ready.ensures.obtained (goes_on_with c.in_ok-first.ensures (goes_on_with (rw c.count.ensures.value at c.in_ok-last.ensures)
    (says _ _ _ (says_same (judged_none c.in_ok-ready.ready c.in_ok-first.first c.in_ok-last.last c.in-None.ensures.there) c.usage-in-None.ensures)))))

pub returns : goal.returns
unfolding ends_files
returns g c =
    on_words over_ends (ends_come (map (λ (word : Bor (List ℕ)). word.now) c.args.words.now)) c.in-Some.ensures
    (goes_on_with c.in_ok-ready.ensures.obtained (goes_on_with c.in_ok-first.ensures (goes_on_with (rw c.count.ensures.value at c.in_ok-last.ensures)
    (says _ _ _ (says_same (judged_one c.in_ok-ready.ready c.in_ok-first.first c.in_ok-last.last c.in-Some-stage_after.stage.now c.in-Some-stage_after.ensures.there)
    (rw (c.content-program.ensures, c.in_ok-given.ensures, c.as_slice-inputs.ensures, c.as_slice-done.ensures, c.as_slice.ensures, c.as_slice-2.ensures)
    at (c.judge_first.ensures c.content-program.result.now c.in_ok-given.given c.as_slice.result.now c.check_start-found.ensures)))))))
