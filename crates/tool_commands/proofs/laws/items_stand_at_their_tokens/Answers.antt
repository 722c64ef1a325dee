use Rattle.tool_commands.proofs.TokenPlacing.{is_at_its_token}
use Rattle.tool_commands.proofs.laws.items_stand_at_their_tokens.Goals as goal

pub returns : goal.returns
returns c = is_at_its_token
