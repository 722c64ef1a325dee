use Rattle.audit_chain.proofs.RestsLemmas.Alike.{same-value}
use Rattle.audit_chain.proofs.rests.laws.recipes_that_check_alike_make_the_same.Goals as goal

pub returns : goal.returns
returns c recipe other inputs others report whole name stage twin ok ok_other given given_other is is_other at at_other checked none checked_other none_other alike =
    same-value recipe other ok inputs others name alike ok_other report whole stage twin given given_other is is_other at at_other checked none checked_other none_other
