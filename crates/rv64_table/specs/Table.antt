-- The table of instructions, and the row of a word.
-- The source: RISC-V Unprivileged ISA, "RV32/64G Instruction Set Listings", the tables RV32I, RV64I, RV32M, RV64M, RV32A and RV64A.
-- docs/reference/instructions.md is the page for readers.
use Rattle.std.specs.Prelude.{ℕ, ◌+◌, ◌*◌, ◌^◌, ◌≡◌, Bool, nat_le, ◌==◌, IsTrue, List, [], ◌∷◌, Option, Some, find, slice_get, bit_and}
use Rattle.rv64_table.specs.declared.Row.{Row}
use Rattle.rv64_table.specs.declared.Form.{Form}
use Rattle.rv64_table.specs.declared.Form.TheVariants.{R, I, H, K, S, B, U, J, E, L, A}
use Rattle.rv64_table.specs.declared.Op.{Op}
use Rattle.rv64_table.specs.declared.Op.TheVariants.{Lui, Auipc, Jal, Jalr, Beq, Bne, Blt, Bge, Bltu, Bgeu, Lb, Lh, Lw, Ld, Lbu, Lhu, Lwu, Sb, Sh, Sw, Sd, Addi, Slti, Sltiu, Xori, Ori, Andi, Slli, Srli, Srai, Add, Sub, Sll, Slt, Sltu, Xor, Srl, Sra, Or, And, Fence, Ecall, Ebreak, Addiw, Slliw, Srliw, Sraiw, Addw, Subw, Sllw, Srlw, Sraw, Mul, Mulh, Mulhsu, Mulhu, Div, Divu, Rem, Remu, Mulw, Divw, Divuw, Remw, Remuw, Lrw, Scw, Amoswapw, Amoaddw, Amoxorw, Amoandw, Amoorw, Amominw, Amomaxw, Amominuw, Amomaxuw, Lrd, Scd, Amoswapd, Amoaddd, Amoxord, Amoandd, Amoord, Amomind, Amomaxd, Amominud, Amomaxud}

-- the bits that a form fixes: the opcode in bits 6..0, funct3 in 14..12, funct7 (H: funct6, L and A: funct5) from 31
-- down; L also fixes rs2, and E fixes all
abbrev pub mask_of : Form → ℕ
mask_of R = 0xFE00707F
mask_of I = 0x0000707F
mask_of H = 0xFC00707F
mask_of K = 0xFE00707F
mask_of S = 0x0000707F
mask_of B = 0x0000707F
mask_of U = 0x0000007F
mask_of J = 0x0000007F
mask_of E = 0xFFFFFFFF
mask_of L = 0xF9F0707F
mask_of A = 0xF800707F

-- the row of an operation by its form, opcode, funct3 and funct7; the last two are 0 if the form does not fix them
abbrev pub row : Form → ℕ → ℕ → ℕ → Op → Row
row form opcode funct3 funct7 op =
    record { mask = mask_of form; want = opcode + funct3 * 2 ^ 12 + funct7 * 2 ^ 25; form = form; op = op }

-- the row of an operation whose word has no fields
abbrev pub whole_word : ℕ → Op → Row
whole_word word op = record { mask = mask_of E; want = word; form = E; op = op }

-- the row of an atomic operation by its form, funct3 and funct5, which is funct7 without the two bits for the order of accesses
abbrev pub atomic : Form → ℕ → ℕ → Op → Row
atomic form funct3 funct5 op = row form 0x2F funct3 (funct5 * 2 ^ 2) op

-- the table, in the standard's order
unfoldable pub table : List Row
table =
    row U 0x37 0 0x00 Lui
    ∷ row U 0x17 0 0x00 Auipc
    ∷ row J 0x6F 0 0x00 Jal
    ∷ row I 0x67 0 0x00 Jalr
    ∷ row B 0x63 0 0x00 Beq
    ∷ row B 0x63 1 0x00 Bne
    ∷ row B 0x63 4 0x00 Blt
    ∷ row B 0x63 5 0x00 Bge
    ∷ row B 0x63 6 0x00 Bltu
    ∷ row B 0x63 7 0x00 Bgeu
    ∷ row I 0x03 0 0x00 Lb
    ∷ row I 0x03 1 0x00 Lh
    ∷ row I 0x03 2 0x00 Lw
    ∷ row I 0x03 3 0x00 Ld
    ∷ row I 0x03 4 0x00 Lbu
    ∷ row I 0x03 5 0x00 Lhu
    ∷ row I 0x03 6 0x00 Lwu
    ∷ row S 0x23 0 0x00 Sb
    ∷ row S 0x23 1 0x00 Sh
    ∷ row S 0x23 2 0x00 Sw
    ∷ row S 0x23 3 0x00 Sd
    ∷ row I 0x13 0 0x00 Addi
    ∷ row I 0x13 2 0x00 Slti
    ∷ row I 0x13 3 0x00 Sltiu
    ∷ row I 0x13 4 0x00 Xori
    ∷ row I 0x13 6 0x00 Ori
    ∷ row I 0x13 7 0x00 Andi
    ∷ row H 0x13 1 0x00 Slli
    ∷ row H 0x13 5 0x00 Srli
    ∷ row H 0x13 5 0x20 Srai
    ∷ row R 0x33 0 0x00 Add
    ∷ row R 0x33 0 0x20 Sub
    ∷ row R 0x33 1 0x00 Sll
    ∷ row R 0x33 2 0x00 Slt
    ∷ row R 0x33 3 0x00 Sltu
    ∷ row R 0x33 4 0x00 Xor
    ∷ row R 0x33 5 0x00 Srl
    ∷ row R 0x33 5 0x20 Sra
    ∷ row R 0x33 6 0x00 Or
    ∷ row R 0x33 7 0x00 And
    ∷ row I 0x0F 0 0x00 Fence
    ∷ whole_word 0x00000073 Ecall
    ∷ whole_word 0x00100073 Ebreak
    ∷ row I 0x1B 0 0x00 Addiw
    ∷ row K 0x1B 1 0x00 Slliw
    ∷ row K 0x1B 5 0x00 Srliw
    ∷ row K 0x1B 5 0x20 Sraiw
    ∷ row R 0x3B 0 0x00 Addw
    ∷ row R 0x3B 0 0x20 Subw
    ∷ row R 0x3B 1 0x00 Sllw
    ∷ row R 0x3B 5 0x00 Srlw
    ∷ row R 0x3B 5 0x20 Sraw
    ∷ row R 0x33 0 0x01 Mul
    ∷ row R 0x33 1 0x01 Mulh
    ∷ row R 0x33 2 0x01 Mulhsu
    ∷ row R 0x33 3 0x01 Mulhu
    ∷ row R 0x33 4 0x01 Div
    ∷ row R 0x33 5 0x01 Divu
    ∷ row R 0x33 6 0x01 Rem
    ∷ row R 0x33 7 0x01 Remu
    ∷ row R 0x3B 0 0x01 Mulw
    ∷ row R 0x3B 4 0x01 Divw
    ∷ row R 0x3B 5 0x01 Divuw
    ∷ row R 0x3B 6 0x01 Remw
    ∷ row R 0x3B 7 0x01 Remuw
    ∷ atomic L 2 0x02 Lrw
    ∷ atomic A 2 0x03 Scw
    ∷ atomic A 2 0x01 Amoswapw
    ∷ atomic A 2 0x00 Amoaddw
    ∷ atomic A 2 0x04 Amoxorw
    ∷ atomic A 2 0x0C Amoandw
    ∷ atomic A 2 0x08 Amoorw
    ∷ atomic A 2 0x10 Amominw
    ∷ atomic A 2 0x14 Amomaxw
    ∷ atomic A 2 0x18 Amominuw
    ∷ atomic A 2 0x1C Amomaxuw
    ∷ atomic L 3 0x02 Lrd
    ∷ atomic A 3 0x03 Scd
    ∷ atomic A 3 0x01 Amoswapd
    ∷ atomic A 3 0x00 Amoaddd
    ∷ atomic A 3 0x04 Amoxord
    ∷ atomic A 3 0x0C Amoandd
    ∷ atomic A 3 0x08 Amoord
    ∷ atomic A 3 0x10 Amomind
    ∷ atomic A 3 0x14 Amomaxd
    ∷ atomic A 3 0x18 Amominud
    ∷ atomic A 3 0x1C Amomaxud
    ∷ []

-- whether the word has the row's bits where the row's mask is set
abbrev pub matches : Row → ℕ → Bool
matches r word = bit_and word r.mask == r.want

-- the row of a word: the row of the table with word & mask = want, if there is one
abbrev pub row_for : ℕ → Option Row
row_for word = find (λ r. matches r word) table

-- the number of an operation: the index of its row in the table, and the value of the cast `op as usize`
abbrev pub op_number : Op → ℕ
op_number Lui = 0
op_number Auipc = 1
op_number Jal = 2
op_number Jalr = 3
op_number Beq = 4
op_number Bne = 5
op_number Blt = 6
op_number Bge = 7
op_number Bltu = 8
op_number Bgeu = 9
op_number Lb = 10
op_number Lh = 11
op_number Lw = 12
op_number Ld = 13
op_number Lbu = 14
op_number Lhu = 15
op_number Lwu = 16
op_number Sb = 17
op_number Sh = 18
op_number Sw = 19
op_number Sd = 20
op_number Addi = 21
op_number Slti = 22
op_number Sltiu = 23
op_number Xori = 24
op_number Ori = 25
op_number Andi = 26
op_number Slli = 27
op_number Srli = 28
op_number Srai = 29
op_number Add = 30
op_number Sub = 31
op_number Sll = 32
op_number Slt = 33
op_number Sltu = 34
op_number Xor = 35
op_number Srl = 36
op_number Sra = 37
op_number Or = 38
op_number And = 39
op_number Fence = 40
op_number Ecall = 41
op_number Ebreak = 42
op_number Addiw = 43
op_number Slliw = 44
op_number Srliw = 45
op_number Sraiw = 46
op_number Addw = 47
op_number Subw = 48
op_number Sllw = 49
op_number Srlw = 50
op_number Sraw = 51
op_number Mul = 52
op_number Mulh = 53
op_number Mulhsu = 54
op_number Mulhu = 55
op_number Div = 56
op_number Divu = 57
op_number Rem = 58
op_number Remu = 59
op_number Mulw = 60
op_number Divw = 61
op_number Divuw = 62
op_number Remw = 63
op_number Remuw = 64
op_number Lrw = 65
op_number Scw = 66
op_number Amoswapw = 67
op_number Amoaddw = 68
op_number Amoxorw = 69
op_number Amoandw = 70
op_number Amoorw = 71
op_number Amominw = 72
op_number Amomaxw = 73
op_number Amominuw = 74
op_number Amomaxuw = 75
op_number Lrd = 76
op_number Scd = 77
op_number Amoswapd = 78
op_number Amoaddd = 79
op_number Amoxord = 80
op_number Amoandd = 81
op_number Amoord = 82
op_number Amomind = 83
op_number Amomaxd = 84
op_number Amominud = 85
op_number Amomaxud = 86

-- whether an operation belongs to the extension A: these rows follow the 65 rows of RV64I and M
abbrev pub is_atomic : Op → Bool
is_atomic op = nat_le 65 (op_number op)

-- the row of an operation
abbrev pub row_with : Op → Option Row
row_with op = find (λ r. op_number r.op == op_number op) table

-- any row that a word matches is the row of the word
abbrev pub FitsItsRow : Type 0
FitsItsRow = (word i : ℕ) (r : Row) → slice_get table i ≡ Some r → IsTrue (matches r word) → row_for word ≡ Some r

-- no word matches two rows: if a word matches the rows at two indices, the indices are equal
abbrev pub Apart : Type 0
Apart =
    (word i j : ℕ) (r s : Row)
    → slice_get table i ≡ Some r
    → slice_get table j ≡ Some s
    → IsTrue (matches r word)
    → IsTrue (matches s word)
    → i ≡ j
