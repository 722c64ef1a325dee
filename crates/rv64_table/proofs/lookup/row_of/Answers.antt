-- One line an opcode: the rows of the opcode compute, and the two fields tell which of them fits.
use Rattle.std.proofs.Common.{refl, ap, ◌∙◌, sym, arith}
use Rattle.std.specs.Prelude.{option_map, bit_and}
use Rattle.std.proofs.lemmas.Bool.Decides.{nat_tests}
use Rattle.rv64_table.specs.Table.{table}
use Rattle.rv64_table.proofs.RowsByField.{by_fields, row-rows_of}
use Rattle.rv64_table.proofs.lookup.row_of.Goals as goal

pub returns-in-55 : goal.returns-in-55
unfolding table
returns-in-55 c = by_fields c.args.word 0x37 c.ranges.word.fits c.in-55.is refl

pub returns-in-23 : goal.returns-in-23
unfolding table
returns-in-23 c = by_fields c.args.word 0x17 c.ranges.word.fits c.in-23.is refl

pub returns-in-111 : goal.returns-in-111
unfolding table
returns-in-111 c = by_fields c.args.word 0x6F c.ranges.word.fits c.in-111.is refl

pub returns-in-103 : goal.returns-in-103
unfolding table
returns-in-103 c = c.jalr.ensures ∙ by_fields c.args.word 0x67 c.ranges.word.fits c.in-103.is refl

pub returns-in-99 : goal.returns-in-99
unfolding table
returns-in-99 c = c.branch-funct3.ensures ∙ by_fields c.args.word 0x63 c.ranges.word.fits c.in-99.is refl

pub returns-in-3 : goal.returns-in-3
unfolding table
returns-in-3 c = c.load.ensures ∙ by_fields c.args.word 0x03 c.ranges.word.fits c.in-3.is refl

pub returns-in-35 : goal.returns-in-35
unfolding table
returns-in-35 c = c.store.ensures ∙ by_fields c.args.word 0x23 c.ranges.word.fits c.in-35.is refl

pub returns-in-19 : goal.returns-in-19
unfolding table
returns-in-19 c = c.op_imm.ensures ∙ by_fields c.args.word 0x13 c.ranges.word.fits c.in-19.is refl

pub returns-in-51 : goal.returns-in-51
unfolding table
returns-in-51 c = c.op.ensures ∙ by_fields c.args.word 0x33 c.ranges.word.fits c.in-51.is refl

pub returns-in-15 : goal.returns-in-15
unfolding table
returns-in-15 c = c.misc_mem.ensures ∙ by_fields c.args.word 0x0F c.ranges.word.fits c.in-15.is refl

pub returns-in-27 : goal.returns-in-27
unfolding table
returns-in-27 c = c.op_imm_32.ensures ∙ by_fields c.args.word 0x1B c.ranges.word.fits c.in-27.is refl

pub returns-in-59 : goal.returns-in-59
unfolding table
returns-in-59 c = c.op_32.ensures ∙ by_fields c.args.word 0x3B c.ranges.word.fits c.in-59.is refl

pub returns-in-47 : goal.returns-in-47
unfolding table
returns-in-47 c = c.atomic.ensures ∙ by_fields c.args.word 0x2F c.ranges.word.fits c.in-47.is refl

pub returns-in-115 : goal.returns-in-115
returns-in-115 c = c.system.ensures ∙ ap (option_map (λ r. r.op)) (sym (row-rows_of c.args.word 0x73 c.in-115.is))

pub returns-in_default : goal.returns-in_default
unfolding table
returns-in_default c = rw (row-rows_of c.args.word (bit_and c.args.word 127) refl) (grind (arith, nat_tests))
