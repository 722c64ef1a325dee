use Rattle.audit_commands.proofs.Finishing.{ends, is_on, pauses}
use Rattle.audit_commands.proofs.going.settle.Goals as goal

pub returns-in-Some : goal.returns-in-Some
returns-in-Some g c = λ current text is keeps.
    ends c.args.audit.now.current _ text c.args.piece.now.save c.args.piece.now.report _ _ _ current c.in-Some.answer.now is c.in-Some.ensures.answer (rw c.recipe.ensures at c.tell.ensures)

pub returns-in-None : goal.returns-in-None
returns-in-None g c = λ current text is keeps.
    pauses c.args.audit.now.current _ text c.args.piece.now.save c.args.piece.now.report _ _ _ current is c.in-None.ensures.answer (λ p on. c.keep_position.ensures p text on keeps)

pub keep_position-requires-clause-on : goal.keep_position-requires-clause-on
keep_position-requires-clause-on g c = is_on c.args.audit.now.current c.requires.current.0 c.requires.current.1 c.in-None.ensures.answer
