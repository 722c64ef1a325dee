use Rattle.std.proofs.Common.{ℕ, List, Result, Ok, Err, map, subst, sym}
use Rattle.std.specs.Borrow.{Bor}
use Rattle.audit_rules.proofs.ValidPositions.{all-made}
use Rattle.audit_rules.specs.Stages.{contents, start_stage}
use Rattle.audit_run.specs.Stage.Begins.{Begins}
use Rattle.audit_run.specs.Stage.Rules.{AreMade}
use Rattle.command_plan.proofs.Obtaining.{ends_before, ends_with, goes_on_with, on_words}
use Rattle.command_plan.proofs.Performing.{says, wants_memory}
use Rattle.command_plan.specs.Performs.{Performs}
use Rattle.guest_run.specs.Start.{Refusal}
use Rattle.guest_run.specs.State.{GuestState}
use Rattle.stage_commands.specs.Cut.{cut_files, cut_from}
use Rattle.stage_commands.proofs.Judging.{cut_none, cut_one, cut_refused, performs_same, says_same}
use Rattle.stage_commands.proofs.Worded.{cuts, over_cut}
use Rattle.stage_commands.proofs.cut.perform.Goals as goal

pub returns-in_default : goal.returns-in_default
returns-in_default g c = on_words over_cut (cuts (map (λ (word : Bor (List ℕ)). word.now) c.args.words.now)) c.in_default.ensures (says _ _ _ c.usage.ensures)

pub start_stage-requires-clause-done : goal.start_stage-requires-clause-done
start_stage-requires-clause-done g c =
    subst AreMade (sym c.as_slice-done.ensures) (all-made c.in_ok-ready.ready.recipe.stages c.in_ok-ready.ready.done c.in_ok-ready.ensures.ready.done.each)

pub returns-in_err-ready : goal.returns-in_err-ready
unfolding cut_files
returns-in_err-ready g c =
    on_words over_cut (cuts (map (λ (word : Bor (List ℕ)). word.now) c.args.words.now)) c.in-Some.ensures
    (ends_with c.from_residual.ensures.1 (ends_before c.in_err-ready.ensures.obtained))

pub returns-in-None : goal.returns-in-None
unfolding cut_files
returns-in-None g c =
    on_words over_cut (cuts (map (λ (word : Bor (List ℕ)). word.now) c.args.words.now)) c.in-Some.ensures
    (let spacing = c.in-Some.words.spacing in
    goes_on_with c.in_ok-ready.ensures.obtained
    (says _ _ _ (says_same (cut_none spacing.every spacing.prefix c.in_ok-ready.ready c.in-None.ensures.there) c.usage-in-None.ensures)))

pub returns-in_err-guest : goal.returns-in_err-guest
unfolding cut_files
returns-in_err-guest g c =
    on_words over_cut (cuts (map (λ (word : Bor (List ℕ)). word.now) c.args.words.now)) c.in-Some.ensures
    (ends_with c.from_residual-in_err-guest.ensures.1 (goes_on_with c.in_ok-ready.ensures.obtained (wants_memory _ _)))

pub returns-in-Ok : goal.returns-in-Ok
unfolding cut_files
returns-in-Ok g c =
    on_words over_cut (cuts (map (λ (word : Bor (List ℕ)). word.now) c.args.words.now)) c.in-Some.ensures
    (let spacing = c.in-Some.words.spacing in
    let ready = c.in_ok-ready.ready in
    let stage = c.in-Some-stage_after.stage.now in
    let meant = start_stage ready.recipe (contents ready.inputs ready.done) stage in
    let begun : Begins meant (Ok c.in-Ok.guest) = subst (Begins meant) c.in-Ok.is (rw (c.as_slice-inputs.ensures, c.as_slice-done.ensures) at c.in_ok-guest.ensures.begins) in
    goes_on_with c.in_ok-ready.ensures.obtained
    (performs_same (cut_one spacing.every spacing.prefix ready stage c.in-Some-stage_after.ensures.there)
    (subst (λ (m : Result GuestState Refusal). Performs (cut_from stage spacing.every spacing.prefix m) (g.S.Shelf.state c.make_ready.new.shelf) (g.S.Shelf.state c.save_along.new.shelf) c.save_along.result)
    (sym begun) c.save_along.ensures)))

pub returns : goal.returns
unfolding cut_files
returns g c =
    on_words over_cut (cuts (map (λ (word : Bor (List ℕ)). word.now) c.args.words.now)) c.in-Some.ensures
    (let spacing = c.in-Some.words.spacing in
    let ready = c.in_ok-ready.ready in
    let stage = c.in-Some-stage_after.stage.now in
    let meant = start_stage ready.recipe (contents ready.inputs ready.done) stage in
    let begun : Begins meant (Err c.in-Err.cause) = subst (Begins meant) c.in-Err.is (rw (c.as_slice-inputs.ensures, c.as_slice-done.ensures) at c.in_ok-guest.ensures.begins) in
    goes_on_with c.in_ok-ready.ensures.obtained
    (performs_same (cut_one spacing.every spacing.prefix ready stage c.in-Some-stage_after.ensures.there)
    (says _ _ _ (says_same (cut_refused stage spacing.every spacing.prefix meant c.in-Err.cause begun) c.run_failed.ensures))))
