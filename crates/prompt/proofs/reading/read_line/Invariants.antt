use Rattle.prompt.specs.Inside.Read.{HasRead}
use Rattle.prompt.proofs.reading.read_line.Given as goal

-- so many bytes were taken
abbrev pub invariant-loop-taken : goal.invariant-loop-taken
invariant-loop-taken g l = HasRead (g.R.Read.remaining l.fn.reader) (g.R.Read.remaining l.reader) l.line l.taken
