use Rattle.std.proofs.Common.{refl, lit<}
use Rattle.std.proofs.lemmas.Fmt.{decimal_digit}
use Rattle.tool_commands.specs.RunProgram.{left_line, stream_line}
use Rattle.ddc_app.proofs.laws.lines_of_a_run.Goals as goal

pub returns-clause-first : goal.returns-clause-first
unfolding stream_line
returns-clause-first c = λ bytes. rw (decimal_digit 1 (lit< tt)) refl

pub returns-clause-second : goal.returns-clause-second
unfolding stream_line
returns-clause-second c = λ bytes. rw (decimal_digit 2 (lit< tt)) refl

pub returns-clause-left : goal.returns-clause-left
unfolding left_line
returns-clause-left c = λ name content. refl
