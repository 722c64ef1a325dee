use Rattle.step_debug.proofs.Positions.{in_parts}
use Rattle.step_debug.proofs.laws.steps_in_parts.Goals as goal

pub returns : goal.returns
returns c session first more is some = in_parts session first more is some
