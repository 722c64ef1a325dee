use Rattle.std.proofs.Common.{◌≡◌, ◌+◌, ℕ, List, length, map, ap, subst, sym, arith}
use Rattle.std.specs.Borrow.{Bor}
use Rattle.std.specs.Prelude.{IfOk}
use Rattle.audit_rules.proofs.ValidPositions.{all-made}
use Rattle.audit_rules.specs.Stages.{contents, start_stage}
use Rattle.audit_rules.specs.declared.answer.Finished.{Finished}
use Rattle.audit_run.specs.Stage.Begins.{Begins}
use Rattle.audit_run.specs.Stage.Rules.{AreMade}
use Rattle.command_plan.proofs.Obtaining.{ends_before, ends_with, goes_on_with, on_words}
use Rattle.command_plan.proofs.Performing.{says, wants_memory}
use Rattle.stage_commands.specs.Left.{left_files, left_of_stage}
use Rattle.stage_commands.proofs.Leaving.{no_stage_there, not_starts, stage_there, starts}
use Rattle.stage_commands.proofs.Stepping.{stage_in_range}
use Rattle.stage_commands.proofs.Worded.{lefts, over_left}
use Rattle.stage_commands.proofs.left.perform.Goals as goal

pub returns-in_default : goal.returns-in_default
returns-in_default g c = on_words over_left (lefts (map (λ (word : Bor (List ℕ)). word.now) c.args.words.now)) c.in_default.ensures (says _ _ _ c.usage.ensures)

pub returns-in_err-recipe : goal.returns-in_err-recipe
unfolding left_files
returns-in_err-recipe g c =
    on_words over_left (lefts (map (λ (word : Bor (List ℕ)). word.now) c.args.words.now)) c.in-Some.ensures
    (ends_with c.from_residual.ensures.1 (ends_before c.in_err-recipe.ensures))

pub returns-in_err-inputs : goal.returns-in_err-inputs
unfolding left_files
returns-in_err-inputs g c =
    on_words over_left (lefts (map (λ (word : Bor (List ℕ)). word.now) c.args.words.now)) c.in-Some.ensures
    (ends_with c.from_residual-in_err-inputs.ensures.1
    (goes_on_with c.in_ok-recipe.ensures (ends_before {next = λ (found : List (List ℕ) × List Finished). left_of_stage c.in_ok-recipe.recipe found.0 found.1 c.in-Some.words.wanted.file c.in-Some.words.wanted.out} c.in_err-inputs.ensures.obtained)))

pub returns-in-None : goal.returns-in-None
unfolding left_files
returns-in-None g c =
    on_words over_left (lefts (map (λ (word : Bor (List ℕ)). word.now) c.args.words.now)) c.in-Some.ensures
    (let recipe = c.in_ok-recipe.recipe in
    let inputs = c.in_ok-inputs.inputs in
    let done = c.in_ok-inputs.done in
    let wanted = c.in-Some.words.wanted in
    goes_on_with c.in_ok-recipe.ensures
    (goes_on_with {next = λ (found : List (List ℕ) × List Finished). left_of_stage c.in_ok-recipe.recipe found.0 found.1 c.in-Some.words.wanted.file c.in-Some.words.wanted.out} c.in_ok-inputs.ensures.obtained
    (no_stage_there recipe inputs done wanted.file wanted.out _ _ c.in-None.ensures.there c.usage-in-None.ensures)))

pub start_stage-requires-clause-done : goal.start_stage-requires-clause-done
start_stage-requires-clause-done g c =
    subst AreMade (sym c.as_slice-done.ensures) (all-made c.in_ok-recipe.recipe.stages c.in_ok-inputs.done c.in_ok-inputs.ensures.done.each)

pub returns-in_err-guest : goal.returns-in_err-guest
unfolding left_files
returns-in_err-guest g c =
    on_words over_left (lefts (map (λ (word : Bor (List ℕ)). word.now) c.args.words.now)) c.in-Some.ensures
    (ends_with c.from_residual-in_err-guest.ensures.1
    (goes_on_with c.in_ok-recipe.ensures (goes_on_with {next = λ (found : List (List ℕ) × List Finished). left_of_stage c.in_ok-recipe.recipe found.0 found.1 c.in-Some.words.wanted.file c.in-Some.words.wanted.out} c.in_ok-inputs.ensures.obtained (wants_memory _ _))))

pub run_out-requires-clause-fresh : goal.run_out-requires-clause-fresh
run_out-requires-clause-fresh g c =
    subst (λ begun. IfOk begun (λ guest. guest.steps ≡ 0)) c.in-Ok.is c.in_ok-guest.ensures.fresh

pub run_out-requires-clause-some : goal.run_out-requires-clause-some
run_out-requires-clause-some g c =
    c.in-Some-stage_after.ensures.rules.1.some_steps

pub run_out-requires-clause-few : goal.run_out-requires-clause-few
run_out-requires-clause-few g c =
    c.in-Some-stage_after.ensures.rules.1.few_steps

pub overflow_cast-done : goal.overflow_cast-done
overflow_cast-done g c =
    let few = stage_in_range c.in_ok-recipe.recipe (length c.in_ok-inputs.done) c.in-Some-stage_after.stage.now c.in_ok-inputs.ensures.kept c.in-Some-stage_after.ensures.there in
    omega (arith, few, ap length c.as_slice-done.ensures)

pub overflow_add-done : goal.overflow_add-done
overflow_add-done g c =
    let few = stage_in_range c.in_ok-recipe.recipe (length c.in_ok-inputs.done) c.in-Some-stage_after.stage.now c.in_ok-inputs.ensures.kept c.in-Some-stage_after.ensures.there in
    omega (arith, few, ap length c.as_slice-done.ensures)

pub returns-in-Ok : goal.returns-in-Ok
unfolding left_files
returns-in-Ok g c =
    on_words over_left (lefts (map (λ (word : Bor (List ℕ)). word.now) c.args.words.now)) c.in-Some.ensures
    (let recipe = c.in_ok-recipe.recipe in
    let inputs = c.in_ok-inputs.inputs in
    let done = c.in_ok-inputs.done in
    let wanted = c.in-Some.words.wanted in
    let stage = c.in-Some-stage_after.stage.now in
    goes_on_with c.in_ok-recipe.ensures
    (goes_on_with {next = λ (found : List (List ℕ) × List Finished). left_of_stage c.in_ok-recipe.recipe found.0 found.1 c.in-Some.words.wanted.file c.in-Some.words.wanted.out} c.in_ok-inputs.ensures.obtained
    (stage_there recipe inputs done wanted.file wanted.out stage _ _ _ c.in-Some-stage_after.ensures.there
    (starts recipe stage wanted.file wanted.out (length done + 1) _ _ c.in-Ok.guest _ _
    (subst (Begins (start_stage recipe (contents inputs done) stage)) c.in-Ok.is (rw (c.as_slice-inputs.ensures, c.as_slice-done.ensures) at c.in_ok-guest.ensures.begins)) c.run_out.ensures))))

pub returns : goal.returns
unfolding left_files
returns g c =
    on_words over_left (lefts (map (λ (word : Bor (List ℕ)). word.now) c.args.words.now)) c.in-Some.ensures
    (let recipe = c.in_ok-recipe.recipe in
    let inputs = c.in_ok-inputs.inputs in
    let done = c.in_ok-inputs.done in
    let wanted = c.in-Some.words.wanted in
    let stage = c.in-Some-stage_after.stage.now in
    goes_on_with c.in_ok-recipe.ensures
    (goes_on_with {next = λ (found : List (List ℕ) × List Finished). left_of_stage c.in_ok-recipe.recipe found.0 found.1 c.in-Some.words.wanted.file c.in-Some.words.wanted.out} c.in_ok-inputs.ensures.obtained
    (stage_there recipe inputs done wanted.file wanted.out stage _ _ _ c.in-Some-stage_after.ensures.there
    (not_starts recipe stage wanted.file wanted.out (length done + 1) _ _ c.in-Err.cause _
    (subst (Begins (start_stage recipe (contents inputs done) stage)) c.in-Err.is (rw (c.as_slice-inputs.ensures, c.as_slice-done.ensures) at c.in_ok-guest.ensures.begins)) (rw c.as_slice-done.ensures at c.unfinished.ensures)))))
