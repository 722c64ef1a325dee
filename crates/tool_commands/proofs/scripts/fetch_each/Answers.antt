use Rattle.std.proofs.Common.{◌+◌, ◌-◌, sym, ap, ◌∙◌, subst, drop}
use Rattle.ddc_base.specs.Limits.{most_content, most_total}
use Rattle.command_plan.specs.Steps.{LeadsOn}
use Rattle.command_plan.proofs.Gathering.{fetched_within}
use Rattle.command_plan.proofs.Obtaining.{stops_with, wants_at_once}
use Rattle.kaem_script.specs.FilesListed.{FilesListed}
use Rattle.tool_commands.specs.Scripts.{and_file, needs_files}
use Rattle.tool_commands.proofs.PlacedFiles.{HasBudget, at-prefix, file-added, file-ends, file-more, files-end, files_left, placed-so, budget-at-first, budget-following, wants_on}
use Rattle.tool_commands.proofs.scripts.fetch_each.Goals as goal

pub returns-in_err-files : goal.returns-in_err-files
returns-in_err-files g c = stops_with c.from_residual.ensures.1 (wants_at_once _ _)

pub loop-word-init : goal.loop-word-init
unfolding needs_files
loop-word-init g c =
    subst (λ (files : FilesListed). LeadsOn (needs_files c.args.words.now) (files_left most_total files c.args.words.now) (g.S.Shelf.state c.args.shelf.now) (g.S.Shelf.state c.args.shelf.now)
    × HasBudget files most_total c.args.words.now) (sym c.in_ok-files.ensures) ((λ next final ending e. e), budget-at-first c.args.words.now c.requires.apart c.requires.few)

pub returns-in_err-content : goal.returns-in_err-content
returns-in_err-content g c =
    stops_with c.from_residual-in_err-content.ensures.1
    (file-ends (needs_files c.args.words.now) c.loop-word.files c.loop-word.budget c.args.words.now c.loop-word.word-index _ _ c.loop-word.invariant.0 c.word-item.result c.name.result c.min.result
    (at-prefix c.args.words.now c.loop-word.word-index c.word-item.result c.loop-word-test.true c.word-item.is) c.name.ensures.value c.min.ensures _ _ c.in_err-content.ensures.obtained)

pub add-requires : goal.add-requires
add-requires g c =
    let prefix = at-prefix c.args.words.now c.loop-word.word-index c.word-item.result c.loop-word-test.true c.word-item.is in
    let within = fetched_within c.name.result most_content c.loop-word.budget c.min.result _ _ c.in_ok-content.content c.min.ensures c.in_ok-content.ensures.fetched in
    rw c.as_slice.ensures
    (placed-so c.loop-word.files c.loop-word.budget c.word-item.result (drop (c.loop-word.word-index + 1) c.args.words.now) c.in_ok-content.content
    (subst (HasBudget c.loop-word.files c.loop-word.budget) prefix c.loop-word.invariant.1) c.name.ensures.file within.0 within.1)

pub returns-in_err-add : goal.returns-in_err-add
returns-in_err-add g c =
    stops_with c.from_residual-in_err-add.ensures.1
    (wants_on _ _ _ _
    (file-more (needs_files c.args.words.now) c.loop-word.files c.loop-word.budget c.args.words.now c.loop-word.word-index _ _ c.loop-word.invariant.0 c.word-item.result c.name.result c.min.result
    (at-prefix c.args.words.now c.loop-word.word-index c.word-item.result c.loop-word-test.true c.word-item.is) c.name.ensures.value c.min.ensures _ _ c.in_ok-content.ensures.obtained))

pub loop-word-preserved : goal.loop-word-preserved
loop-word-preserved g c =
    let prefix = at-prefix c.args.words.now c.loop-word.word-index c.word-item.result c.loop-word-test.true c.word-item.is in
    let within = fetched_within c.name.result most_content c.loop-word.budget c.min.result _ _ c.in_ok-content.content c.min.ensures c.in_ok-content.ensures.fetched in
    file-added (needs_files c.args.words.now) c.loop-word.files c.loop-word.budget c.args.words.now c.loop-word.word-index _ _ c.loop-word.invariant.0 c.word-item.result c.name.result c.min.result
    prefix c.name.ensures.value c.min.ensures _ c.in_ok-content.content _ _ c.in_ok-content.ensures.obtained
    (budget-following c.loop-word.files c.loop-word.budget c.word-item.result (drop (c.loop-word.word-index + 1) c.args.words.now) c.in_ok-content.content
    (subst (HasBudget c.loop-word.files c.loop-word.budget) prefix c.loop-word.invariant.1) c.name.ensures.file within.0 within.1)
    (ap (λ n. c.loop-word.budget - n) c.len.ensures)
    (c.in_ok-add.ensures ∙ ap (and_file c.loop-word.files c.word-item.result) c.as_slice.ensures)

pub returns : goal.returns
returns g c = files-end (needs_files c.args.words.now) c.loop-word.files c.loop-word.budget c.args.words.now c.loop-word.word-index _ _ c.loop-word.invariant.0 c.loop-word-test.false
