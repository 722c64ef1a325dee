use Rattle.command_plan.proofs.Obtaining.{wants_at_once}
use Rattle.tool_commands.proofs.kaem_verify.read_report.Goals as goal

pub returns : goal.returns
returns c = λ shelf. wants_at_once _ shelf
