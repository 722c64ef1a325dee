use Rattle.std.proofs.Common.{IsTrue, length, sym, ap, ◌∙◌, subst, arith, take_all}
use Rattle.std.specs.List.{fold}
use Rattle.std.specs.FinMap as fin
use Rattle.guest_run.specs.Setting.{IsText}
use Rattle.recipe.specs.Text.Reading.{is_word}
use Rattle.recipe.specs.Kept as kept
use Rattle.audit_rules.specs.Contents.{box_of, with_stage_file}
use Rattle.audit_rules.specs.Stages.{contents}
use Rattle.audit_rules.proofs.Rules.{word-is}
use Rattle.audit_run.proofs.StageLemmas.Placing.{each-at, file-fits, stripped-same}
use Rattle.audit_run.proofs.stage.context.fill.Goals as goal

pub push_arg-requires : goal.push_arg-requires
push_arg-requires c =
    subst IsText (sym c.as_slice.ensures)
    (word-is c.text-item.result (each-at (λ t. IsTrue (is_word t)) _ _ _ c.text-item.result c.requires.stage.1.args c.as_slice-text-items.ensures c.loop-text-test.true c.text-item.is)).whole

pub push_env-requires : goal.push_env-requires
push_env-requires c =
    subst IsText (sym c.as_slice-in-loop-text-2.ensures)
    (word-is c.text-item-in-loop-text-2.result (each-at (λ t. IsTrue (is_word t)) _ _ _ c.text-item-in-loop-text-2.result c.requires.stage.1.env c.as_slice-text-items-2.ensures c.loop-text-2-test.true c.text-item-in-loop-text-2.is)).whole

pub place-requires-clause-stripped : goal.place-requires-clause-stripped
place-requires-clause-stripped c =
    let file = each-at (kept.IsStageFile c.args.recipe.now c.requires.stage.0) _ _ _ c.file-item.result c.requires.stage.1.files c.as_slice-file-items.ensures c.loop-file-test.true c.file-item.is in
    rw c.as_slice-in-loop-file.ensures (stripped-same c.file-item.result.path file.path.stripped)

pub place-requires-clause-fits : goal.place-requires-clause-fits
place-requires-clause-fits c =
    rw (c.as_slice-in-loop-file.ensures, c.content-bytes.ensures, c.loop-file.invariant)
    (file-fits c.args.recipe.now c.args.inputs.now c.args.done.now c.args.stage.now c.requires.stage.0 _ c.loop-file.file-index c.file-item.result
    c.requires.stage.1 c.requires.inputs c.requires.done c.as_slice-file-items.ensures c.loop-file-test.true c.file-item.is)

pub returns : goal.returns
unfolding box_of
returns c =
    c.loop-file.invariant
    ∙ ap (λ files. record {
      args = c.args.stage.now.args;
      env = c.args.stage.now.env;
      files = fold (with_stage_file c.args.recipe.now (contents c.args.inputs.now c.args.done.now)) fin.empty files;
      heap = c.args.stage.now.heap;
    }) (take_all c.loop-file.file-index c.args.stage.now.files (omega (arith, c.loop-file-test.false, ap length c.as_slice-file-items.ensures)))
