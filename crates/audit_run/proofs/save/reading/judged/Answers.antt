use Rattle.std.proofs.Common.{◌≡◌, true, false, map, refl, sym, ◌∙◌}
use Rattle.checkpoints.proofs.PatchCounts.{patched_bare}
use Rattle.save_format.specs.Seen.{input_view, save_view, stage_view}
use Rattle.save_format.specs.StateText.Seen.{state_view}
use Rattle.audit_run.proofs.SaveLemmas.Exactly.{are_digests, same_digests, stood}
use Rattle.audit_run.proofs.SaveLemmas.PositionParsed.{all_of}
use Rattle.audit_run.proofs.save.reading.judged.Goals as goal

pub position_of-requires-clause-stages : goal.position_of-requires-clause-stages
position_of-requires-clause-stages c = all_of 0 (map stage_view c.in-Ok.parts.done.items) c.in-Ok.ensures.found.0.stages.1

pub position_of-requires-clause-state : goal.position_of-requires-clause-state
position_of-requires-clause-state c = patched_bare (state_view c.in-Ok.parts.state) c.in-Ok.ensures.found.0.state

pub returns-then-not-is_of-clause-resumes : goal.returns-then-not-is_of-clause-resumes
returns-then-not-is_of-clause-resumes c = (
  save_view c.in-Ok.parts,
  c.in-Ok.ensures.exact,
  λ is.
      let no : false ≡ true = c.if-not-is_of.ensures.1 (is.same_recipe ∙ sym c.digest-digest.ensures.value, are_digests c.in-Ok.parts.inputs.items c.args.inputs.now is.same_inputs) in
      cc,
)

pub returns-clause-resumes : goal.returns-clause-resumes
returns-clause-resumes c =
    let is = c.if-not-is_of.ensures.0 refl in
    stood c.args.recipe.now c.args.inputs.now c.args.text.now (save_view c.in-Ok.parts) c.position_of.result c.in-Ok.ensures.exact
    (record { same_recipe = is.0 ∙ c.digest-digest.ensures.value; same_inputs = same_digests c.in-Ok.parts.inputs.items c.args.inputs.now is.1 })
    (c.position_of.ensures.current c.in-Ok.parts.recipe (map input_view c.in-Ok.parts.inputs.items))
