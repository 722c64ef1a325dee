use Rattle.tool_commands.proofs.Spots.{offset_is_place, told_at}
use Rattle.tool_commands.proofs.laws.lines_and_columns_are_those_of_the_byte.Goals as goal

pub returns-clause-within : goal.returns-clause-within
returns-clause-within c = told_at

pub returns-clause-offset : goal.returns-clause-offset
returns-clause-offset c = offset_is_place
