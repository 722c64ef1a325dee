use Rattle.std.proofs.Common.{◌≡◌, true, false, length, map, All, refl, sym, ap, subst, ◌∙◌}
use Rattle.std.proofs.lemmas.List.{length-map}
use Rattle.std.proofs.lemmas.Result.{err_from_is_err_and}
use Rattle.save_format.specs.Seen.{stage_view}
use Rattle.audit_rules.specs.Positions.{at}
use Rattle.audit_rules.specs.Valid.{AreDone}
use Rattle.audit_run.specs.Save.Saves.{MayOccur, finished_of}
use Rattle.audit_run.proofs.SaveLemmas.PositionParsed.{IsOrdered, each_ordered, position_may_occur, parsed_by, twice}
use Rattle.audit_run.proofs.save.reading.position_of.Goals as goal

pub are_done-requires : goal.are_done-requires
are_done-requires c = subst (All IsOrdered) (sym (c.as_slice-2.ensures.value ∙ c.in_ok-done.ensures)) (each_ordered c.args.parts.items c.requires.stages)

pub returns-then-not-may_occur-clause-current : goal.returns-then-not-may_occur-clause-current
returns-then-not-may_occur-clause-current c = λ digest inputs position.
    let save = parsed_by c.args.parts.items c.args.state.now digest inputs in
    let many = ap length c.as_slice.ensures.value ∙ sym (length-map c.args.parts.items stage_view) in
    let no : false ≡ true = (c.if-not-may_occur.ensures save many c.header_in-header.ensures).1 (position_may_occur c.args.recipe.now save position) in
    cc

pub returns-in_err-done-clause-current : goal.returns-in_err-done-clause-current
returns-in_err-done-clause-current c = λ digest inputs.
    let many = ap length c.as_slice.ensures.value ∙ sym (length-map c.args.parts.items stage_view) in
    let p = err_from_is_err_and c.from_residual.result c.from_residual.ensures.1 in
    rw (p.1, p.2) ((c.if-not-may_occur.ensures (parsed_by c.args.parts.items c.args.state.now digest inputs) many c.header_in-header.ensures).0 refl)

pub returns-then-not-are_done-clause-current : goal.returns-then-not-are_done-clause-current
returns-then-not-are_done-clause-current c = λ digest inputs position.
    let same : c.as_slice-2.result.now ≡ map finished_of (map stage_view c.args.parts.items) = c.as_slice-2.ensures.value ∙ c.in_ok-done.ensures ∙ twice c.args.parts.items in
    let no : false ≡ true = c.if-not-are_done.ensures.1 (subst (AreDone c.args.recipe.now) (sym same) position.2.done) in
    cc

pub returns-in-Ok-clause-current : goal.returns-in-Ok-clause-current
returns-in-Ok-clause-current c = λ digest inputs.
    let recipe = c.args.recipe.now in
    let save = parsed_by c.args.parts.items c.args.state.now digest inputs in
    let many = ap length c.as_slice.ensures.value ∙ sym (length-map c.args.parts.items stage_view) in
    let may : MayOccur recipe save = (c.if-not-may_occur.ensures save many c.header_in-header.ensures).0 refl in
    let same : c.in_ok-done.done.items ≡ map finished_of (map stage_view c.args.parts.items) = c.in_ok-done.ensures ∙ twice c.args.parts.items in (
      (
        may.0,
        may.1,
        record {
          left = may.2.left;
          done = subst (AreDone recipe) (c.as_slice-2.ensures.value ∙ same) (c.if-not-are_done.ensures.0 refl);
          range = c.in-Ok.ensures.0;
          joined = c.in-Ok.ensures.1;
          within = may.2.within;
          heap = may.2.heap;
        },
      ),
      λ i. at (same i) (c.in-Ok.ensures.2 i),
    )

pub returns-clause-current : goal.returns-clause-current
returns-clause-current c = λ digest inputs.
    let many = ap length c.as_slice.ensures.value ∙ sym (length-map c.args.parts.items stage_view) in
    (c.if-not-may_occur.ensures (parsed_by c.args.parts.items c.args.state.now digest inputs) many c.header_in-header.ensures).0 refl
