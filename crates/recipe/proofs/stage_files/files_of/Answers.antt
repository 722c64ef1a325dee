use Rattle.std.proofs.lemmas.Result.{err_from_is_err_and}
use Rattle.toml.specs.View.{view}
use Rattle.recipe.specs.declared.text.keys.Key.TheVariants as key
use Rattle.recipe.specs.Tables.{next_file}
use Rattle.recipe.proofs.TextLemmas.Walks.{gathers_more, gathers_fails, gathers_all}
use Rattle.recipe.proofs.stage_files.files_of.Goals as goal

pub returns-in_err-file : goal.returns-in_err-file
returns-in_err-file c =
    let p = err_from_is_err_and c.from_residual.result c.from_residual.ensures.1 in
    rw (p.1, p.2) (gathers_fails c.in_err-file.field-0.0 view (next_file c.args.place key.Files) c.args.entries.now c.loop-entry.entry-index
    c.entry-item.result c.loop-entry.files c.loop-entry-test.true c.entry-item.is c.loop-entry.invariant c.in_err-file.ensures)

pub loop-entry-preserved : goal.loop-entry-preserved
loop-entry-preserved c =
    gathers_more view (next_file c.args.place key.Files) c.args.entries.now c.loop-entry.entry-index c.entry-item.result c.loop-entry.files c.push.new.self
    c.in_ok-file.file c.loop-entry-test.true c.entry-item.is c.loop-entry.invariant c.in_ok-file.ensures c.in_ok-push.ensures.ok

pub returns : goal.returns
returns c =
    gathers_all view (next_file c.args.place key.Files) c.args.entries.now c.loop-entry.entry-index c.loop-entry.files c.loop-entry-test.false c.loop-entry.invariant
