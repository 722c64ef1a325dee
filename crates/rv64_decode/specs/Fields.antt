-- The fields of an instruction word and the immediate of each form.
-- The source: RISC-V Unprivileged ISA, "Base Instruction Formats" and "Immediate Encoding Variants".
-- docs/reference/instructions.md is the page for readers.
use Rattle.std.specs.Prelude.{ℕ, ◌+◌, ◌-◌, ◌*◌, ◌/◌, ◌%◌, ◌^◌, Bool, true, false, ℤ, pos, ◌-ℤ◌, nat_lt, if◌then◌else◌}
use Rattle.rv64_table.specs.declared.Form.{Form}
use Rattle.rv64_table.specs.declared.Form.TheVariants.{R, I, H, K, S, B, U, J, E, L, A}

-- bits high..low of a word
abbrev pub bits : ℕ → ℕ → ℕ → ℕ
bits word high low = word / 2 ^ low % 2 ^ (high - low + 1)

-- the signed value of `width` bits in two's complement
abbrev pub signed : ℕ → ℕ → ℤ
signed width n = if nat_lt n (2 ^ (width - 1)) then pos n else pos n -ℤ pos (2 ^ width)

-- the offset of a branch: bit 31 is its bit 12, bit 7 its bit 11, bits 30..25 its bits 10..5, bits 11..8 its bits 4..1
abbrev pub branch_offset : ℕ → ℕ
branch_offset word = bits word 31 31 * 2 ^ 12 + bits word 7 7 * 2 ^ 11 + bits word 30 25 * 2 ^ 5 + bits word 11 8 * 2 ^ 1

-- the offset of a jump: bit 31 is its bit 20, bits 19..12 stay, bit 20 is its bit 11, bits 30..21 its bits 10..1
abbrev pub jump_offset : ℕ → ℕ
jump_offset word = bits word 31 31 * 2 ^ 20 + bits word 19 12 * 2 ^ 12 + bits word 20 20 * 2 ^ 11 + bits word 30 21 * 2 ^ 1

-- the immediate of a word of a form; 0 if the form has none
abbrev pub immediate : Form → ℕ → ℤ
immediate R word = pos 0
immediate I word = signed 12 (bits word 31 20)
immediate H word = pos (bits word 25 20)
immediate K word = pos (bits word 24 20)
immediate S word = signed 12 (bits word 31 25 * 2 ^ 5 + bits word 11 7)
immediate B word = signed 13 (branch_offset word)
immediate U word = signed 32 (bits word 31 12 * 2 ^ 12)
immediate J word = signed 21 (jump_offset word)
immediate E word = pos 0
immediate L word = pos (bits word 26 25)
immediate A word = pos (bits word 26 25)

-- whether words of a form name a destination register
abbrev pub has_rd : Form → Bool
has_rd S = false
has_rd B = false
has_rd E = false
has_rd _ = true

-- whether words of a form name a first source register
abbrev pub has_rs1 : Form → Bool
has_rs1 U = false
has_rs1 J = false
has_rs1 E = false
has_rs1 _ = true

-- whether words of a form name a second source register
abbrev pub has_rs2 : Form → Bool
has_rs2 R = true
has_rs2 S = true
has_rs2 B = true
has_rs2 A = true
has_rs2 _ = false
