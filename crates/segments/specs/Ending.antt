-- The meaning of an answer on a last text. docs/reference/segments.md says the same for people.
use Rattle.std.specs.Prelude.{ℕ, List}
use Rattle.checkpoints.specs.Checkpoint.{MayWantMemory}
use Rattle.segments.specs.declared.ending.EndAnswer.{EndAnswer}
use Rattle.segments.specs.declared.ending.EndAnswer.TheVariants as ending
use Rattle.segments.specs.Segments.{EndsWith, GoesOnFrom, IsNoState}

-- memory may run out only if the text's form is right and its runs can be mapped
abbrev pub EndChecks : List ℕ → ℕ → EndAnswer → Type 0
EndChecks text limit (ending.Ended guest why) = EndsWith text limit guest why
EndChecks text limit (ending.NotState why) = IsNoState text why
EndChecks text limit ending.Over = GoesOnFrom text limit
EndChecks text limit ending.OutOfMemory = MayWantMemory text
