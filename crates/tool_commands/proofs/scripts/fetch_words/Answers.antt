use Rattle.std.proofs.lemmas.Result.{IfOk-weaker}
use Rattle.tool_commands.specs.Inside.Placing.{AreApart}
use Rattle.tool_commands.proofs.FileWords.{listed-apart}
use Rattle.tool_commands.proofs.scripts.fetch_words.Goals as goal

pub returns-clause-apart : goal.returns-clause-apart
returns-clause-apart g c = IfOk-weaker c.fetch_list.result _ AreApart listed-apart c.fetch_list.ensures.listed
