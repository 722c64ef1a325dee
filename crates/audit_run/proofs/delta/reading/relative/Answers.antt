use Rattle.std.proofs.Common.{◌≡◌, true, false, map, ap, ◌∙◌}
use Rattle.ddc_base.specs.declared.digests.Digest.{Digest}
use Rattle.save_format.specs.DeltaText.Header.{is_of_other_base}
use Rattle.save_format.specs.DeltaText.Seen.{delta_view}
use Rattle.save_format.specs.Seen.{input_view, save_view}
use Rattle.audit_run.specs.Delta.Deltas.{save_relative}
use Rattle.audit_run.proofs.DeltaLemmas.Judging.{no_form, no_other, no_position}
use Rattle.audit_run.proofs.delta.reading.relative.Goals as goal

pub returns-in-Ok-position_of-clause-goes : goal.returns-in-Ok-position_of-clause-goes
returns-in-Ok-position_of-clause-goes c =
    let current = c.in-Ok-position_of.ensures.current c.args.known.recipe (map input_view c.args.known.inputs.items) in (
      λ other.
          let none : false ≡ true = c.if-names_other_base.ensures ∙ ap (λ (digest : Digest). is_of_other_base digest c.args.text.now) c.requires.named ∙ other in
          absurd cc,
      delta_view c.in-Ok.parts,
      c.in-Ok.ensures.exact,
      current.0,
      current.1,
    )

pub unreachable-requires : goal.unreachable-requires
unreachable-requires c =
    no_form c.args.recipe.now (save_relative (save_view c.args.known) (delta_view c.in-Ok.parts)) c.in-Err-Form-position_of.field-0 c.in-Err-Form-position_of.field-0-0 c.in-Err-Form-position_of.field-0-is
    (c.in-Err-Form-position_of.ensures.current c.args.known.recipe (map input_view c.args.known.inputs.items))

pub unreachable-requires-in-Err-OtherRecipe : goal.unreachable-requires-in-Err-OtherRecipe
unreachable-requires-in-Err-OtherRecipe c =
    no_other c.args.recipe.now (save_relative (save_view c.args.known) (delta_view c.in-Ok.parts)) c.in-Err-OtherRecipe.field-0 c.in-Err-OtherRecipe.field-0-is
    (c.in-Err-OtherRecipe.ensures.current c.args.known.recipe (map input_view c.args.known.inputs.items))

pub returns-in-Err-State-clause-goes : goal.returns-in-Err-State-clause-goes
returns-in-Err-State-clause-goes c = (
  λ other.
      let none : false ≡ true = c.if-names_other_base.ensures ∙ ap (λ (digest : Digest). is_of_other_base digest c.args.text.now) c.requires.named ∙ other in
      absurd cc,
  delta_view c.in-Ok.parts,
  c.in-Ok.ensures.exact,
  no_position c.args.recipe.now (save_relative (save_view c.args.known) (delta_view c.in-Ok.parts)) c.in-Err-State.field-0 c.in-Err-State.field-0-is
      (c.in-Err-State.ensures.current c.args.known.recipe (map input_view c.args.known.inputs.items)),
)
