use Rattle.tool_commands.proofs.asm.make.Goals as goal

pub returns-in-Hex0 : goal.returns-in-Hex0
returns-in-Hex0 c = rw c.in-Hex0.is c.make_value.ensures

pub returns-in-Hex1 : goal.returns-in-Hex1
returns-in-Hex1 c = rw c.in-Hex1.is c.make_value-in-Hex1.ensures

pub returns-in-Hex2 : goal.returns-in-Hex2
returns-in-Hex2 c = rw c.in-Hex2.is c.make_value-in-Hex2.ensures

pub returns-in-M1 : goal.returns-in-M1
returns-in-M1 c = rw c.in-M1.is c.make_items.ensures
