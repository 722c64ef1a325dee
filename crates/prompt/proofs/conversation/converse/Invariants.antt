use Rattle.std.proofs.Common.{◌-◌}
use Rattle.prompt.specs.Inside.Turns.{GoesOn}
use Rattle.prompt.proofs.conversation.converse.Given as goal

abbrev pub invariant-loop : goal.invariant-loop
invariant-loop g l =
    GoesOn g.R.Respond.answered l.fn.session l.session l.fn.lines (l.fn.lines - l.counter)
    (g.K.Sink.state l.fn.out) (g.K.Sink.state l.out) (g.P.Prompt.state l.fn.prompt) (g.P.Prompt.state l.prompt)
