use Rattle.std.proofs.Common.{sym, ap, ◌∙◌}
use Rattle.std.specs.Prelude.{option_map}
use Rattle.std.proofs.lemmas.Option.{slice_get-map}
use Rattle.save_format.specs.Seen.{stage_view}
use Rattle.save_format.proofs.delta_text.stages.known_at.Goals as goal

pub returns : goal.returns
returns c = ap (option_map stage_view) c.stage_at.ensures ∙ sym (slice_get-map stage_view c.args.base.now c.args.kept)
