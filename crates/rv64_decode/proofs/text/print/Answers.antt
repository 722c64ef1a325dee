use Rattle.std.proofs.Common.{sym, ◌∙◌}
use Rattle.rv64_decode.proofs.Decoding.{text-row}
use Rattle.rv64_decode.proofs.text.print.Goals as goal

pub returns : goal.returns
returns c = c.push_operands.ensures ∙ sym (text-row c.args.inst.now c.args.pc c.row.result c.row.ensures.table)
