use Rattle.command_plan.proofs.Obtaining.{stops_with}
use Rattle.tool_commands.proofs.Making.{has_none, has_value, value_wants}
use Rattle.tool_commands.proofs.asm.make_value.Goals as goal

pub returns-in-Ok : goal.returns-in-Ok
returns-in-Ok c = λ shelf. has_value c.args.language c.args.base c.args.source.now shelf c.in-Ok.bytes c.in-Ok.ensures

pub returns-in_err-refuse-in-Err : goal.returns-in_err-refuse-in-Err
returns-in_err-refuse-in-Err c = λ shelf.
    stops_with c.from_residual.ensures.1 (value_wants c.args.language c.args.base c.args.source.now shelf c.in-Err.refusal _ c.in_err-refuse-in-Err.ensures)

pub returns-in_ok-refuse-in-Err : goal.returns-in_ok-refuse-in-Err
returns-in_ok-refuse-in-Err c = λ shelf. has_none c.args.language c.args.base c.args.source.now shelf c.in-Err.refusal _ c.in-Err.ensures c.in_ok-refuse-in-Err.ensures
