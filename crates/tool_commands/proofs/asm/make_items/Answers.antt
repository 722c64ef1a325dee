use Rattle.command_plan.proofs.Obtaining.{stops_with, wants_at_once}
use Rattle.tool_commands.proofs.Making.{has_items, has_no_items, items_want}
use Rattle.tool_commands.proofs.asm.make_items.Goals as goal

pub returns-in_err-write_items-in-Ok : goal.returns-in_err-write_items-in-Ok
returns-in_err-write_items-in-Ok c = λ shelf. stops_with c.from_residual.ensures.1 (wants_at_once _ shelf)

pub returns-in_ok-write_items-in-Ok : goal.returns-in_ok-write_items-in-Ok
returns-in_ok-write_items-in-Ok c = λ shelf. has_items c.args.source.now shelf c.in-Ok.items _ c.in-Ok.ensures c.in_ok-write_items-in-Ok.ensures

pub returns-in_err-refuse_m1-in-Err : goal.returns-in_err-refuse_m1-in-Err
returns-in_err-refuse_m1-in-Err c = λ shelf.
    stops_with c.from_residual-in_err-refuse_m1-in-Err.ensures.1 (items_want c.args.source.now shelf c.in-Err.refusal _ c.in_err-refuse_m1-in-Err.ensures)

pub returns-in_ok-refuse_m1-in-Err : goal.returns-in_ok-refuse_m1-in-Err
returns-in_ok-refuse_m1-in-Err c = λ shelf. has_no_items c.args.source.now shelf c.in-Err.refusal _ c.in-Err.ensures c.in_ok-refuse_m1-in-Err.ensures
