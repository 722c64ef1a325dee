-- Which instructions have a word, and in which bits the immediate is.
-- The source: RISC-V Unprivileged ISA, "Base Instruction Formats" and "Immediate Encoding Variants".
-- docs/reference/instructions.md is the page for readers.
use Rattle.std.specs.Prelude.{ℕ, ◌+◌, ◌-◌, ◌*◌, ◌%◌, ◌^◌, Bool, false, ◌&&◌, ◌==◌, nat_lt, ℤ, pos, neg_ℤ, int_lt, int_le, unsigned_abs, if◌then◌else◌}
use Rattle.std.specs.Option.{option_map_or}
use Rattle.rv64_table.specs.declared.Form.{Form}
use Rattle.rv64_table.specs.declared.Form.TheVariants.{R, I, H, K, S, B, U, J, E, L, A}
use Rattle.rv64_table.specs.Table.{row_with}
use Rattle.rv64_decode.specs.declared.Inst.{Inst}
use Rattle.rv64_decode.specs.Fields.{bits, has_rd, has_rs1, has_rs2}

-- is this a number of `width` bits in two's complement?
abbrev pub is_signed : ℕ → ℤ → Bool
is_signed width z = int_le (neg_ℤ (pos (2 ^ (width - 1)))) z && int_lt z (pos (2 ^ (width - 1)))

-- is this a number of `width` bits without a sign?
abbrev pub is_unsigned : ℕ → ℤ → Bool
is_unsigned width z = int_le (pos 0) z && int_lt z (pos (2 ^ width))

-- is this a multiple of `unit`?
abbrev pub is_multiple : ℕ → ℤ → Bool
is_multiple unit z = unsigned_abs z % unit == 0

-- is this an immediate of the form?
abbrev pub has_immediate : Form → ℤ → Bool
has_immediate R z = is_unsigned 0 z
has_immediate I z = is_signed 12 z
has_immediate H z = is_unsigned 6 z
has_immediate K z = is_unsigned 5 z
has_immediate S z = is_signed 12 z
has_immediate B z = is_signed 13 z && is_multiple 2 z
has_immediate U z = is_signed 32 z && is_multiple (2 ^ 12) z
has_immediate J z = is_signed 21 z && is_multiple 2 z
has_immediate E z = is_unsigned 0 z
has_immediate L z = is_unsigned 2 z
has_immediate A z = is_unsigned 2 z

-- the fields are valid in a form: registers are below 32 if it has them and 0 otherwise, and the immediate is one of the form
abbrev pub fits_form : Form → Inst → Bool
fits_form form inst =
    nat_lt inst.rd (if has_rd form then 32 else 1)
    && (nat_lt inst.rs1 (if has_rs1 form then 32 else 1)
    && (nat_lt inst.rs2 (if has_rs2 form then 32 else 1)
    && has_immediate form inst.imm))

-- the fields are valid in the form of the operation's row
abbrev pub is_encodable : Inst → Bool
is_encodable inst = option_map_or (λ row. fits_form row.form inst) (row_with inst.op) false

-- the bits of a number in the positions that a form gives its immediate
abbrev pub immediate_bits : Form → ℕ → ℕ
immediate_bits R n = 0
immediate_bits I n = bits n 11 0 * 2 ^ 20
immediate_bits H n = bits n 5 0 * 2 ^ 20
immediate_bits K n = bits n 4 0 * 2 ^ 20
immediate_bits S n = bits n 11 5 * 2 ^ 25 + bits n 4 0 * 2 ^ 7
immediate_bits B n = bits n 12 12 * 2 ^ 31 + bits n 10 5 * 2 ^ 25 + bits n 4 1 * 2 ^ 8 + bits n 11 11 * 2 ^ 7
immediate_bits U n = bits n 31 12 * 2 ^ 12
immediate_bits J n = bits n 20 20 * 2 ^ 31 + bits n 10 1 * 2 ^ 21 + bits n 11 11 * 2 ^ 20 + bits n 19 12 * 2 ^ 12
immediate_bits E n = 0
immediate_bits L n = bits n 1 0 * 2 ^ 25
immediate_bits A n = bits n 1 0 * 2 ^ 25

-- a row's required bits, an instruction's registers in their bit positions, and the placed immediate
abbrev pub joined_fields : ℕ → Inst → ℕ → ℕ
joined_fields want inst immediate = want + inst.rd * 2 ^ 7 + inst.rs1 * 2 ^ 15 + inst.rs2 * 2 ^ 20 + immediate
