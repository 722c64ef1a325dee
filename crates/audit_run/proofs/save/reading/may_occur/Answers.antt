use Rattle.std.proofs.Common.{◌≡◌, ◌+◌, ◌∷◌, List, drop, length, map, refl, sym, ap, ◌∙◌, arith}
use Rattle.std.proofs.lemmas.List.{length-map}
use Rattle.audit_rules.specs.declared.answer.Finished.{Finished}
use Rattle.audit_rules.specs.Positions.{todo}
use Rattle.audit_run.specs.Save.Saves.{finished_of}
use Rattle.audit_run.proofs.SaveLemmas.PositionParsed.{present}
use Rattle.audit_run.proofs.save.reading.may_occur.Goals as goal

pub returns : goal.returns
returns c = λ save same header.
    let recipe = c.args.recipe.now in
    let stage = c.in-Some.stage.now in
    let fs : List Finished = map finished_of save.stages in
    let left : todo recipe fs ≡ stage ∷ drop (length fs + 1) recipe.stages =
    present recipe c.as_slice.result.now c.args.stages fs fs stage (c.as_slice.ensures ∙ c.stages.ensures.value) (same ∙ sym (length-map save.stages finished_of)) refl c.in-Some.ensures.lookup.0 c.in-Some.ensures.lookup.1 in
    let low = c.if-header-stage.false in
    let made = c.may_be_made.ensures save.state header in (
      λ t. (
        stage,
        drop (length fs + 1) recipe.stages,
        record {
          left = left;
          within = omega (arith, low, header.steps);
          heap = sym (ap (λ h. h.limit) header.heap) ∙ c.if-header-stage-2.false;
          state = made.0 t;
        },
      ),
      λ may. made.1 may.2.state,
    )
