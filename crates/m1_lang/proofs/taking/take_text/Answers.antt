use Rattle.std.proofs.Common.{replicate, ◌-◌, ◌%◌, length}
use Rattle.m1_lang.proofs.Takings.{append-refused, append-taken}
use Rattle.m1_lang.proofs.taking.take_text.Goals as goal

pub returns-in-Err-clause-takes : goal.returns-in-Err-clause-takes
returns-in-Err-clause-takes c at =
    append-refused c.in-Err.halt c.args.word at c.args.text.now (replicate (4 - length c.args.text.now % 4) 0) c.args.items.now c.take_bytes.new.items (c.in-Err.ensures.takes at)

pub returns-in-Ok-clause-takes : goal.returns-in-Ok-clause-takes
returns-in-Ok-clause-takes c at =
    append-taken c.take_zeros.result c.args.word c.in-Ok.next at c.args.text.now (replicate (4 - length c.args.text.now % 4) 0) c.args.items.now c.take_bytes.new.items
    c.take_zeros.new.items (c.in-Ok.ensures.takes at) (c.take_zeros.ensures.takes at)
