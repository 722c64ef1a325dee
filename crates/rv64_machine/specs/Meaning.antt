-- The meaning of each row of the instruction table, one line for each row (RISC-V Unprivileged ISA, "RV32I", "RV64I", "M", "A").
-- Of "A", these are "Load-Reserved/Store-Conditional Instructions", the extension Zalrsc, and "Atomic Memory Operations", the
-- extension Zaamo.
-- docs/reference/machine.md is the page for readers.
use Rattle.std.specs.Prelude.{ℕ, ◌*◌, ◌/◌, ◌%◌, ◌==◌, Bool, not, nat_le, nat_lt, int_lt, pos, bit_and, bit_or, bit_xor}
use Rattle.rv64_table.specs.declared.Op.{Op}
use Rattle.rv64_table.specs.declared.Op.TheVariants.{Lui, Auipc, Jal, Jalr, Beq, Bne, Blt, Bge, Bltu, Bgeu, Lb, Lh, Lw, Ld, Lbu, Lhu, Lwu, Sb, Sh, Sw, Sd, Addi, Slti, Sltiu, Xori, Ori, Andi, Slli, Srli, Srai, Add, Sub, Sll, Slt, Sltu, Xor, Srl, Sra, Or, And, Fence, Ecall, Ebreak, Addiw, Slliw, Srliw, Sraiw, Addw, Subw, Sllw, Srlw, Sraw, Mul, Mulh, Mulhsu, Mulhu, Div, Divu, Rem, Remu, Mulw, Divw, Divuw, Remw, Remuw, Lrw, Scw, Amoswapw, Amoaddw, Amoxorw, Amoandw, Amoorw, Amominw, Amomaxw, Amominuw, Amomaxuw, Lrd, Scd, Amoswapd, Amoaddd, Amoxord, Amoandd, Amoord, Amomind, Amomaxd, Amominud, Amomaxud}
use Rattle.rv64_decode.specs.Fields.{signed}
use Rattle.paged_mem.specs.declared.ram.Width.TheVariants.{W1, W2, W4, W8}
use Rattle.rv64_machine.specs.declared.effect.Effect.{Effect}
use Rattle.rv64_machine.specs.declared.effect.AmoOperation.TheVariants as operation
use Rattle.rv64_machine.specs.declared.effect.Effect.TheVariants.{Put, Jump, Branch, Load, LoadSigned, Store, Next, Call, Break, LoadReserved, StoreConditional, Amo}
use Rattle.rv64_machine.specs.Arithmetic.{difference, flag, high_product, low_word, product, quotient, quotient_unsigned, remainder, remainder_unsigned, shifted_left, shifted_right, shifted_right_signed, sign_extended, sum}

-- whether a is less than b, both signed
abbrev pub less : ℕ → ℕ → Bool
less a b = int_lt (signed 64 a) (signed 64 b)

-- the address with bit 0 cleared
abbrev pub even : ℕ → ℕ
even address = address / 2 * 2

-- the result of an operation on words, sign-extended
abbrev pub word : ℕ → ℕ
word n = sign_extended 32 n

-- the meaning of a row: a and b are the values of rs1 and rs2, and i is the immediate sign-extended to 64 bits.
-- In the atomic rows, a is the address, and i is the order of accesses, which has no effect on one hart
abbrev pub meaning : Op → ℕ → ℕ → ℕ → ℕ → Effect
meaning Lui a b i pc = Put i
meaning Auipc a b i pc = Put (sum 64 pc i)
meaning Jal a b i pc = Jump (sum 64 pc i)
meaning Jalr a b i pc = Jump (even (sum 64 a i))
meaning Beq a b i pc = Branch (a == b) (sum 64 pc i)
meaning Bne a b i pc = Branch (not (a == b)) (sum 64 pc i)
meaning Blt a b i pc = Branch (less a b) (sum 64 pc i)
meaning Bge a b i pc = Branch (not (less a b)) (sum 64 pc i)
meaning Bltu a b i pc = Branch (nat_lt a b) (sum 64 pc i)
meaning Bgeu a b i pc = Branch (nat_le b a) (sum 64 pc i)
meaning Lb a b i pc = LoadSigned W1 (sum 64 a i)
meaning Lh a b i pc = LoadSigned W2 (sum 64 a i)
meaning Lw a b i pc = LoadSigned W4 (sum 64 a i)
meaning Ld a b i pc = Load W8 (sum 64 a i)
meaning Lbu a b i pc = Load W1 (sum 64 a i)
meaning Lhu a b i pc = Load W2 (sum 64 a i)
meaning Lwu a b i pc = Load W4 (sum 64 a i)
meaning Sb a b i pc = Store W1 (sum 64 a i) b
meaning Sh a b i pc = Store W2 (sum 64 a i) b
meaning Sw a b i pc = Store W4 (sum 64 a i) b
meaning Sd a b i pc = Store W8 (sum 64 a i) b
meaning Addi a b i pc = Put (sum 64 a i)
meaning Slti a b i pc = Put (flag (less a i))
meaning Sltiu a b i pc = Put (flag (nat_lt a i))
meaning Xori a b i pc = Put (bit_xor a i)
meaning Ori a b i pc = Put (bit_or a i)
meaning Andi a b i pc = Put (bit_and a i)
meaning Slli a b i pc = Put (shifted_left 64 a (i % 64))
meaning Srli a b i pc = Put (shifted_right a (i % 64))
meaning Srai a b i pc = Put (shifted_right_signed 64 a (i % 64))
meaning Add a b i pc = Put (sum 64 a b)
meaning Sub a b i pc = Put (difference 64 a b)
meaning Sll a b i pc = Put (shifted_left 64 a (b % 64))
meaning Slt a b i pc = Put (flag (less a b))
meaning Sltu a b i pc = Put (flag (nat_lt a b))
meaning Xor a b i pc = Put (bit_xor a b)
meaning Srl a b i pc = Put (shifted_right a (b % 64))
meaning Sra a b i pc = Put (shifted_right_signed 64 a (b % 64))
meaning Or a b i pc = Put (bit_or a b)
meaning And a b i pc = Put (bit_and a b)
meaning Fence a b i pc = Next
meaning Ecall a b i pc = Call
meaning Ebreak a b i pc = Break
meaning Addiw a b i pc = Put (word (sum 32 (low_word a) (low_word i)))
meaning Slliw a b i pc = Put (word (shifted_left 32 (low_word a) (i % 32)))
meaning Srliw a b i pc = Put (word (shifted_right (low_word a) (i % 32)))
meaning Sraiw a b i pc = Put (word (shifted_right_signed 32 (low_word a) (i % 32)))
meaning Addw a b i pc = Put (word (sum 32 (low_word a) (low_word b)))
meaning Subw a b i pc = Put (word (difference 32 (low_word a) (low_word b)))
meaning Sllw a b i pc = Put (word (shifted_left 32 (low_word a) (b % 32)))
meaning Srlw a b i pc = Put (word (shifted_right (low_word a) (b % 32)))
meaning Sraw a b i pc = Put (word (shifted_right_signed 32 (low_word a) (b % 32)))
meaning Mul a b i pc = Put (product 64 a b)
meaning Mulh a b i pc = Put (high_product (signed 64 a) (signed 64 b))
meaning Mulhsu a b i pc = Put (high_product (signed 64 a) (pos b))
meaning Mulhu a b i pc = Put (high_product (pos a) (pos b))
meaning Div a b i pc = Put (quotient 64 a b)
meaning Divu a b i pc = Put (quotient_unsigned 64 a b)
meaning Rem a b i pc = Put (remainder 64 a b)
meaning Remu a b i pc = Put (remainder_unsigned a b)
meaning Mulw a b i pc = Put (word (product 32 (low_word a) (low_word b)))
meaning Divw a b i pc = Put (word (quotient 32 (low_word a) (low_word b)))
meaning Divuw a b i pc = Put (word (quotient_unsigned 32 (low_word a) (low_word b)))
meaning Remw a b i pc = Put (word (remainder 32 (low_word a) (low_word b)))
meaning Remuw a b i pc = Put (word (remainder_unsigned (low_word a) (low_word b)))
meaning Lrw a b i pc = LoadReserved W4 a
meaning Scw a b i pc = StoreConditional W4 a b
meaning Amoswapw a b i pc = Amo operation.Swap W4 a b
meaning Amoaddw a b i pc = Amo operation.Add W4 a b
meaning Amoxorw a b i pc = Amo operation.Xor W4 a b
meaning Amoandw a b i pc = Amo operation.And W4 a b
meaning Amoorw a b i pc = Amo operation.Or W4 a b
meaning Amominw a b i pc = Amo operation.Min W4 a b
meaning Amomaxw a b i pc = Amo operation.Max W4 a b
meaning Amominuw a b i pc = Amo operation.MinUnsigned W4 a b
meaning Amomaxuw a b i pc = Amo operation.MaxUnsigned W4 a b
meaning Lrd a b i pc = LoadReserved W8 a
meaning Scd a b i pc = StoreConditional W8 a b
meaning Amoswapd a b i pc = Amo operation.Swap W8 a b
meaning Amoaddd a b i pc = Amo operation.Add W8 a b
meaning Amoxord a b i pc = Amo operation.Xor W8 a b
meaning Amoandd a b i pc = Amo operation.And W8 a b
meaning Amoord a b i pc = Amo operation.Or W8 a b
meaning Amomind a b i pc = Amo operation.Min W8 a b
meaning Amomaxd a b i pc = Amo operation.Max W8 a b
meaning Amominud a b i pc = Amo operation.MinUnsigned W8 a b
meaning Amomaxud a b i pc = Amo operation.MaxUnsigned W8 a b
