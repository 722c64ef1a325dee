use Rattle.step_debug.proofs.Positions.{no_other, the_same}
use Rattle.step_debug.proofs.stepping.repeated.Goals as goal

pub unreachable-requires : goal.unreachable-requires
unreachable-requires c = no_other _ _ _ _ _ c.requires.goes.1 c.in-Exited.ensures.by_end

pub unreachable-requires-in-Trapped : goal.unreachable-requires-in-Trapped
unreachable-requires-in-Trapped c = no_other _ _ _ _ _ c.requires.goes.1 c.in-Trapped.ensures.by_end

pub unreachable-requires-in-UnknownCall : goal.unreachable-requires-in-UnknownCall
unreachable-requires-in-UnknownCall c = no_other _ _ _ _ _ c.requires.goes.1 c.in-UnknownCall.ensures.by_end

pub returns-in-Spent : goal.returns-in-Spent
returns-in-Spent c = the_same _ _ _ _ c.requires.goes.1 c.in-Spent.ensures.by_end
