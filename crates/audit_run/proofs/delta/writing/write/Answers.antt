use Rattle.save_format.specs.Seen.{save_view}
use Rattle.audit_rules.specs.Positions.{at}
use Rattle.audit_run.proofs.SaveLemmas.Written.{short_done}
use Rattle.audit_run.proofs.DeltaLemmas.Writing.{deltas_are, few_pages, few_stages, is_read}
use Rattle.audit_run.proofs.delta.writing.write.Goals as goal

pub known_of-requires : goal.known_of-requires
known_of-requires c = is_read c.args.so_far.now.recipe.now c.args.so_far.now.inputs.now c.args.base.now c.show_rules.ensures c.args.so_far.now.given c.requires.base.0 c.requires.base.1

pub relative-requires-clause-pages : goal.relative-requires-clause-pages
relative-requires-clause-pages c =
    few_pages c.args.so_far.now.recipe.now c.args.so_far.now.inputs.now c.args.base.now c.show_rules.ensures c.args.so_far.now.given c.requires.base.0 c.requires.base.1 (save_view c.in_ok-known.known) c.in_ok-known.ensures.parsed

pub relative-requires-clause-few : goal.relative-requires-clause-few
relative-requires-clause-few c = few_stages c.args.so_far.now.recipe.now (at c.args.so_far.now.done.now c.args.guest.now) c.show_rules.ensures c.requires.position

pub relative-requires-clause-short : goal.relative-requires-clause-short
relative-requires-clause-short c = short_done c.args.so_far.now.recipe.now (at c.args.so_far.now.done.now c.args.guest.now) c.show_rules.ensures c.requires.position

pub returns : goal.returns
returns c =
    deltas_are c.args.so_far.now.recipe.now c.args.so_far.now.inputs.now c.args.base.now (save_view c.in_ok-known.known) (at c.args.so_far.now.done.now c.args.guest.now) c.relative.result c.show_rules.ensures c.args.so_far.now.given
    c.in_ok-known.ensures.parsed c.relative.ensures
