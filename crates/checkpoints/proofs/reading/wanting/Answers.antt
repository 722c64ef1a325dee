use Rattle.std.proofs.Common.{◌≡◌, ◌∙◌, false, sym, true}
use Rattle.save_format.specs.StateText.StateText.{parsed_state}
use Rattle.checkpoints.proofs.Refused.{header_made, wanted}
use Rattle.checkpoints.proofs.reading.wanting.Goals as goal

pub returns-then-may_be_made : goal.returns-then-may_be_made
returns-then-may_be_made c =
    let parsed = wanted (parsed_state c.args.text.now) c.requires in
    (parsed.0, parsed.1, (c.may_be_made.ensures parsed.0 (c.header_of-header.ensures parsed.0 parsed.1)).0 c.if-may_be_made.true)

pub returns-else-may_be_made : goal.returns-else-may_be_made
returns-else-may_be_made c =
    let parsed = wanted (parsed_state c.args.text.now) c.requires in (
      parsed.0,
      parsed.1,
      λ range.
          let is : true ≡ false = sym ((c.may_be_made.ensures parsed.0 (c.header_of-header.ensures parsed.0 parsed.1)).1 (header_made parsed.0 range)) ∙ c.if-may_be_made.false in
          cc,
    )
