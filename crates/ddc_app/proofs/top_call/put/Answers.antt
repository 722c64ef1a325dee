use Rattle.ddc_app.proofs.Ending.{put_ends}
use Rattle.ddc_app.proofs.top_call.put.Goals as goal

pub returns : goal.returns
returns g c = put_ends _ _ _ c.put.result _ _ c.put.ensures.leaves c.unless_lost.ensures
