use Rattle.prompt.proofs.Lines.{no-lf}
use Rattle.prompt.proofs.memory.line_size.Goals as goal

pub returns-in-None-clause-size : goal.returns-in-None-clause-size
returns-in-None-clause-size c = no-lf c.args.unread.now (c.in-None.ensures.value)
