use Rattle.stage_commands.proofs.step.start_session.Goals as goal

pub returns : goal.returns
returns c = λ shelf. rw (c.as_slice.ensures, c.as_slice-2.ensures) at (c.start_over.ensures shelf)
