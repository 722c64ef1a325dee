use Rattle.prompt.proofs.Turning.{of_end}
use Rattle.prompt.proofs.conversation.turn.Goals as goal

pub returns-in-Ok-End : goal.returns-in-Ok-End
returns-in-Ok-End g c = of_end _ _ _ _ _ c.in-Ok-End.field-0 c.in-Ok-End.field-0-is c.in-Ok-End.ensures.told c.in-Ok-End.ensures.leaves
