use Rattle.std.proofs.Common.{◌≡◌, ap, refl, ◌∙◌, w64}
use Rattle.std.proofs.lemmas.Int.{to_z-of_z}
use Rattle.rv64_table.specs.declared.Op.{Op}
use Rattle.rv64_table.specs.declared.Op.TheVariants.{Lui, Auipc, Jal, Jalr, Beq, Bne, Blt, Bge, Bltu, Bgeu, Lb, Lh, Lw, Ld, Lbu, Lhu, Lwu, Sb, Sh, Sw, Sd, Fence, Ecall, Ebreak}
use Rattle.rv64_machine.specs.Arithmetic.{wrapped}
use Rattle.rv64_machine.specs.Meaning.{meaning}
use Rattle.rv64_machine.specs.Inside.Computed.{other_effect}
use Rattle.rv64_machine.proofs.effect.effect_of.Goals as goal

-- the rows that are not listed take no offset, and no pc
pub returns-in_default : goal.returns-in_default
returns-in_default c =
    c.other_effect_of.ensures
    ∙ ap (other_effect c.args.op c.args.a c.args.b) (c.pattern-i.ensures ∙ ap (wrapped 64) (to_z-of_z w64 c.args.imm c.ranges.imm))
    ∙ by_op c.args.op refl
  where
    by_op : (op : Op) → c.args.op ≡ op → other_effect op c.args.a c.args.b (wrapped 64 c.args.imm) ≡ meaning op c.args.a c.args.b (wrapped 64 c.args.imm) c.args.pc
    by_op Lui is = absurd (c.in_default.not-Lui is)
    by_op Auipc is = absurd (c.in_default.not-Auipc is)
    by_op Jal is = absurd (c.in_default.not-Jal is)
    by_op Jalr is = absurd (c.in_default.not-Jalr is)
    by_op Beq is = absurd (c.in_default.not-Beq is)
    by_op Bne is = absurd (c.in_default.not-Bne is)
    by_op Blt is = absurd (c.in_default.not-Blt is)
    by_op Bge is = absurd (c.in_default.not-Bge is)
    by_op Bltu is = absurd (c.in_default.not-Bltu is)
    by_op Bgeu is = absurd (c.in_default.not-Bgeu is)
    by_op Lb is = absurd (c.in_default.not-Lb is)
    by_op Lh is = absurd (c.in_default.not-Lh is)
    by_op Lw is = absurd (c.in_default.not-Lw is)
    by_op Ld is = absurd (c.in_default.not-Ld is)
    by_op Lbu is = absurd (c.in_default.not-Lbu is)
    by_op Lhu is = absurd (c.in_default.not-Lhu is)
    by_op Lwu is = absurd (c.in_default.not-Lwu is)
    by_op Sb is = absurd (c.in_default.not-Sb is)
    by_op Sh is = absurd (c.in_default.not-Sh is)
    by_op Sw is = absurd (c.in_default.not-Sw is)
    by_op Sd is = absurd (c.in_default.not-Sd is)
    by_op Fence is = absurd (c.in_default.not-Fence is)
    by_op Ecall is = absurd (c.in_default.not-Ecall is)
    by_op Ebreak is = absurd (c.in_default.not-Ebreak is)
    by_op _ is = refl
