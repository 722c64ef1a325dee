use Rattle.std.proofs.Common.{◌++◌, List, map, take}
use Rattle.save_format.specs.DeltaText.Stages.{stages_relative_at}
use Rattle.save_format.specs.SaveText.{StageText}
use Rattle.save_format.specs.Seen.{stage_view}
use Rattle.save_format.proofs.ByteFieldsLemmas.Loop.{past_on}
use Rattle.save_format.proofs.delta_text.passing.pass_stages_relative.Goals as goal

pub returns : goal.returns
unfolding stages_relative_at
returns c =
    rw c.in_ok-kept.ensures
    (past_on (λ (further : List StageText). take c.in_ok-kept.kept (map stage_view c.args.base.now) ++ further) c.pass_several.result c.pass_several.new.cursor _ (rw c.known_at.ensures at c.pass_several.ensures))
