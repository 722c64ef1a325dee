use Rattle.std.proofs.Common.{◌≡◌, ◌∙◌, false, sym, true}
use Rattle.save_format.specs.SaveText.{parsed_save}
use Rattle.audit_run.proofs.SaveLemmas.Origins.{wanted}
use Rattle.audit_run.proofs.SaveLemmas.PositionParsed.{position_may_occur}
use Rattle.audit_run.proofs.save.reading.wanting.Goals as goal

pub returns-then-may_occur : goal.returns-then-may_occur
returns-then-may_occur c =
    let parsed = wanted (parsed_save c.args.text.now) c.requires in
    let header = c.header_of-header.ensures parsed.0 parsed.1 in
    (parsed.0, parsed.1, (c.is_text_of.ensures parsed.0 parsed.1).0 c.if-not-is_text_of.false, (c.may_occur.ensures parsed.0 header.stages header.state).0 c.if-may_occur.true)

pub returns-else-may_occur : goal.returns-else-may_occur
returns-else-may_occur c =
    let parsed = wanted (parsed_save c.args.text.now) c.requires in
    let header = c.header_of-header.ensures parsed.0 parsed.1 in (
      parsed.0,
      parsed.1,
      (c.is_text_of.ensures parsed.0 parsed.1).0 c.if-not-is_text_of.false,
      λ position.
          let is : true ≡ false = sym ((c.may_occur.ensures parsed.0 header.stages header.state).1 (position_may_occur c.args.recipe.now parsed.0 position)) ∙ c.if-may_occur.false in
          cc,
    )
