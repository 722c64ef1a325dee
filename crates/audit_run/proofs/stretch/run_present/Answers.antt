use Rattle.std.proofs.Common.{Some, length, get_or, sym, ap, ◌∙◌}
use Rattle.std.proofs.lemmas.Option.{slice_get-get_or}
use Rattle.audit_rules.specs.Positions.{at}
use Rattle.audit_run.proofs.Present.{position-index, stage-rules}
use Rattle.audit_run.proofs.stretch.run_present.Goals as goal

pub run_slice-requires-clause-stage : goal.run_slice-requires-clause-stage
run_slice-requires-clause-stage c =
    let same = c.as_slice.ensures ∙ c.stages.ensures.value in
    stage-rules c.args.so_far.now.recipe.now (length c.args.so_far.now.done.now) c.index-as_slice-so_far.result c.stages.ensures.kept
    (slice_get-get_or c.args.so_far.now.recipe.now.stages (length c.args.so_far.now.done.now) c.index-as_slice-so_far.result (position-index c.args.so_far.now.recipe.now (at c.args.so_far.now.done.now c.args.guest.now) c.requires.current)
    ∙ ap Some (sym (c.index-as_slice-so_far.is ∙ ap (λ stages. get_or stages (length c.args.so_far.now.done.now) c.index-as_slice-so_far.result) same)))
