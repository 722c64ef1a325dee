-- The printed text of an instruction, as a list of bytes.
-- docs/reference/instructions.md has this table for readers.
use Rattle.std.specs.Prelude.{ℕ, zero, suc, ◌+◌, ◌/◌, ◌%◌, ◌^◌, nat_lt, ℤ, List, [], ◌∷◌, ◌++◌, if◌then◌else◌, ◌==◌, codes, decimal}
use Rattle.std.specs.Fmt.{signed_decimal}
use Rattle.std.specs.Int.{w64, cast_unsigned}
use Rattle.std.specs.Option.{option_map_or}
use Rattle.rv64_table.specs.declared.Form.{Form}
use Rattle.rv64_table.specs.declared.Form.TheVariants.{R, I, H, K, S, B, U, J, E, L, A}
use Rattle.rv64_table.specs.declared.Op.{Op}
use Rattle.rv64_table.specs.declared.Op.TheVariants.{Lui, Auipc, Jal, Jalr, Beq, Bne, Blt, Bge, Bltu, Bgeu, Lb, Lh, Lw, Ld, Lbu, Lhu, Lwu, Sb, Sh, Sw, Sd, Addi, Slti, Sltiu, Xori, Ori, Andi, Slli, Srli, Srai, Add, Sub, Sll, Slt, Sltu, Xor, Srl, Sra, Or, And, Fence, Ecall, Ebreak, Addiw, Slliw, Srliw, Sraiw, Addw, Subw, Sllw, Srlw, Sraw, Mul, Mulh, Mulhsu, Mulhu, Div, Divu, Rem, Remu, Mulw, Divw, Divuw, Remw, Remuw, Lrw, Scw, Amoswapw, Amoaddw, Amoxorw, Amoandw, Amoorw, Amominw, Amomaxw, Amominuw, Amomaxuw, Lrd, Scd, Amoswapd, Amoaddd, Amoxord, Amoandd, Amoord, Amomind, Amomaxd, Amominud, Amomaxud}
use Rattle.rv64_table.specs.Table.{row_with}
use Rattle.rv64_decode.specs.declared.Inst.{Inst}
use Rattle.rv64_decode.specs.Fields.{bits}

-- the name of the operation in lower case
abbrev pub name : Op → List ℕ
name Lui = codes "lui"
name Auipc = codes "auipc"
name Jal = codes "jal"
name Jalr = codes "jalr"
name Beq = codes "beq"
name Bne = codes "bne"
name Blt = codes "blt"
name Bge = codes "bge"
name Bltu = codes "bltu"
name Bgeu = codes "bgeu"
name Lb = codes "lb"
name Lh = codes "lh"
name Lw = codes "lw"
name Ld = codes "ld"
name Lbu = codes "lbu"
name Lhu = codes "lhu"
name Lwu = codes "lwu"
name Sb = codes "sb"
name Sh = codes "sh"
name Sw = codes "sw"
name Sd = codes "sd"
name Addi = codes "addi"
name Slti = codes "slti"
name Sltiu = codes "sltiu"
name Xori = codes "xori"
name Ori = codes "ori"
name Andi = codes "andi"
name Slli = codes "slli"
name Srli = codes "srli"
name Srai = codes "srai"
name Add = codes "add"
name Sub = codes "sub"
name Sll = codes "sll"
name Slt = codes "slt"
name Sltu = codes "sltu"
name Xor = codes "xor"
name Srl = codes "srl"
name Sra = codes "sra"
name Or = codes "or"
name And = codes "and"
name Fence = codes "fence"
name Ecall = codes "ecall"
name Ebreak = codes "ebreak"
name Addiw = codes "addiw"
name Slliw = codes "slliw"
name Srliw = codes "srliw"
name Sraiw = codes "sraiw"
name Addw = codes "addw"
name Subw = codes "subw"
name Sllw = codes "sllw"
name Srlw = codes "srlw"
name Sraw = codes "sraw"
name Mul = codes "mul"
name Mulh = codes "mulh"
name Mulhsu = codes "mulhsu"
name Mulhu = codes "mulhu"
name Div = codes "div"
name Divu = codes "divu"
name Rem = codes "rem"
name Remu = codes "remu"
name Mulw = codes "mulw"
name Divw = codes "divw"
name Divuw = codes "divuw"
name Remw = codes "remw"
name Remuw = codes "remuw"
name Lrw = codes "lr.w"
name Scw = codes "sc.w"
name Amoswapw = codes "amoswap.w"
name Amoaddw = codes "amoadd.w"
name Amoxorw = codes "amoxor.w"
name Amoandw = codes "amoand.w"
name Amoorw = codes "amoor.w"
name Amominw = codes "amomin.w"
name Amomaxw = codes "amomax.w"
name Amominuw = codes "amominu.w"
name Amomaxuw = codes "amomaxu.w"
name Lrd = codes "lr.d"
name Scd = codes "sc.d"
name Amoswapd = codes "amoswap.d"
name Amoaddd = codes "amoadd.d"
name Amoxord = codes "amoxor.d"
name Amoandd = codes "amoand.d"
name Amoord = codes "amoor.d"
name Amomind = codes "amomin.d"
name Amomaxd = codes "amomax.d"
name Amominud = codes "amominu.d"
name Amomaxud = codes "amomaxu.d"

-- a register
abbrev pub register : ℕ → List ℕ
register number = codes "x" ++ decimal number

-- a hexadecimal digit in lower case
abbrev pub hex_digit : ℕ → ℕ
hex_digit n = if nat_lt n 10 then 48 + n else 87 + n

-- the lowest `count` hexadecimal digits of a number, highest digit first
unfoldable pub hex_digits : ℕ → ℕ → List ℕ
hex_digits zero n = []
hex_digits (suc count) n = hex_digits count (n / 16) ++ hex_digit (n % 16) ∷ []

-- the target of a jump or a branch at pc
abbrev pub target : ℕ → ℤ → ℕ
target pc imm = (pc + cast_unsigned w64 imm) % 2 ^ 64

-- three registers
abbrev pub registers_text : Inst → List ℕ
registers_text inst = name inst.op ++ codes " " ++ register inst.rd ++ codes ", " ++ register inst.rs1 ++ codes ", " ++ register inst.rs2

-- two registers and an immediate
abbrev pub immediate_text : Inst → List ℕ
immediate_text inst =
    name inst.op ++ codes " " ++ register inst.rd ++ codes ", " ++ register inst.rs1 ++ codes ", " ++ signed_decimal inst.imm

-- a register, and the address that another register and an immediate give
abbrev pub memory_text : Inst → ℕ → List ℕ
memory_text inst value =
    name inst.op ++ codes " " ++ register value ++ codes ", " ++ signed_decimal inst.imm ++ codes "(" ++ register inst.rs1 ++ codes ")"

-- two registers and a target
abbrev pub branch_text : Inst → ℕ → List ℕ
branch_text inst pc =
    name inst.op ++ codes " " ++ register inst.rs1 ++ codes ", " ++ register inst.rs2 ++ codes ", " ++ hex_digits 16 (target pc inst.imm)

-- a register and bits 31..12 of the immediate
abbrev pub upper_text : Inst → List ℕ
upper_text inst = name inst.op ++ codes " " ++ register inst.rd ++ codes ", " ++ hex_digits 5 (bits (cast_unsigned w64 inst.imm) 31 12)

-- a register and a target
abbrev pub jump_text : Inst → ℕ → List ℕ
jump_text inst pc = name inst.op ++ codes " " ++ register inst.rd ++ codes ", " ++ hex_digits 16 (target pc inst.imm)

-- in form I, loads and JALR print an address, and FENCE prints nothing more
abbrev pub form_i_text : Op → Inst → List ℕ
form_i_text Jalr inst = memory_text inst inst.rd
form_i_text Lb inst = memory_text inst inst.rd
form_i_text Lh inst = memory_text inst inst.rd
form_i_text Lw inst = memory_text inst inst.rd
form_i_text Ld inst = memory_text inst inst.rd
form_i_text Lbu inst = memory_text inst inst.rd
form_i_text Lhu inst = memory_text inst inst.rd
form_i_text Lwu inst = memory_text inst inst.rd
form_i_text Fence inst = name inst.op
form_i_text _ inst = immediate_text inst

-- the order of accesses that aq (2) and rl (1) request, as a suffix of the name
abbrev pub order_suffix : ℕ → List ℕ
order_suffix bits = if bits == 1 then codes ".rl" else (if bits == 2 then codes ".aq" else (if bits == 3 then codes ".aqrl" else []))

-- the name with the order of accesses, and the destination register
abbrev pub ordered_text : Inst → List ℕ
ordered_text inst = name inst.op ++ order_suffix (cast_unsigned w64 inst.imm) ++ codes " " ++ register inst.rd

-- for a load-reserved: the destination register, and the register that holds the address
abbrev pub load_reserved_text : Inst → List ℕ
load_reserved_text inst = ordered_text inst ++ codes ", (" ++ register inst.rs1 ++ codes ")"

-- for the other atomic rows: the destination register, rs2, and the register that holds the address
abbrev pub atomic_text : Inst → List ℕ
atomic_text inst = ordered_text inst ++ codes ", " ++ register inst.rs2 ++ codes ", (" ++ register inst.rs1 ++ codes ")"

-- the text by the form of the operation; stores print rs2 first
abbrev pub form_text : Form → Inst → ℕ → List ℕ
form_text R inst pc = registers_text inst
form_text I inst pc = form_i_text inst.op inst
form_text H inst pc = immediate_text inst
form_text K inst pc = immediate_text inst
form_text S inst pc = memory_text inst inst.rs2
form_text B inst pc = branch_text inst pc
form_text U inst pc = upper_text inst
form_text J inst pc = jump_text inst pc
form_text E inst pc = name inst.op
form_text L inst pc = load_reserved_text inst
form_text A inst pc = atomic_text inst

-- the text of an instruction at an address
unfoldable pub text : Inst → ℕ → List ℕ
text inst pc = option_map_or (λ row. form_text row.form inst pc) (row_with inst.op) []
