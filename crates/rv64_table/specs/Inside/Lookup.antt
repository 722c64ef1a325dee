-- How the code finds a row: by the opcode, and then by funct3, funct7 and, in form L, rs2. To read the promises, this file is not needed.
use Rattle.std.specs.Prelude.{ℕ, ◌/◌, ◌%◌, ◌^◌, ◌+◌, ◌*◌, Bool, true, false, if◌then◌else◌, ◌&&◌, ◌==◌, List, Option, option_map, find, filter}
use Rattle.rv64_table.specs.Table.{matches, table}
use Rattle.rv64_table.specs.declared.Row.{Row}
use Rattle.rv64_table.specs.declared.Form.{Form}
use Rattle.rv64_table.specs.declared.Form.TheVariants.{R, H, K, U, J, E, L, A}
use Rattle.rv64_table.specs.declared.Op.{Op}

-- the rows of an opcode
abbrev pub rows_of : ℕ → List Row → List Row
rows_of opcode rows = filter (λ r. r.want % 2 ^ 7 == opcode) rows

-- forms whose words have fields
abbrev pub has_fields : Form → Bool
has_fields E = false
has_fields _ = true

-- funct3 is the required one, or the form does not fix it
abbrev pub fits_funct3 : Form → ℕ → ℕ → Bool
fits_funct3 U want funct3 = want == 0
fits_funct3 J want funct3 = want == 0
fits_funct3 _ want funct3 = funct3 == want

-- funct7 (H: its upper six bits, L and A: its upper five) is the required one, or the form does not fix it
abbrev pub fits_funct7 : Form → ℕ → ℕ → Bool
fits_funct7 R want funct7 = funct7 == want
fits_funct7 K want funct7 = funct7 == want
fits_funct7 H want funct7 = (want % 2 == 0) && (funct7 / 2 == want / 2)
fits_funct7 L want funct7 = (want % 2 ^ 2 == 0) && (funct7 / 2 ^ 2 == want / 2 ^ 2)
fits_funct7 A want funct7 = (want % 2 ^ 2 == 0) && (funct7 / 2 ^ 2 == want / 2 ^ 2)
fits_funct7 _ want funct7 = want == 0

-- the form does not fix bits 24..15, which hold rs2 above rs1; or (L) rs2 is the required one
abbrev pub fits_registers : Form → ℕ → ℕ → Bool
fits_registers L want registers = (want % 2 ^ 5 == 0) && (registers / 2 ^ 5 == want / 2 ^ 5)
fits_registers _ want registers = want == 0

-- the row's required bits above the opcode are these fields, and 0 in registers and immediates
abbrev pub fits_fields : Form → ℕ → ℕ → ℕ → ℕ → Bool
fits_fields form want funct3 funct7 registers =
    (want / 2 ^ 7 % 2 ^ 5 == 0)
    && (fits_funct3 form (want / 2 ^ 12 % 2 ^ 3) funct3
    && (fits_registers form (want / 2 ^ 15 % 2 ^ 10) registers
    && fits_funct7 form (want / 2 ^ 25) funct7))

-- the operation of the first of these rows that fits these fields
abbrev pub pick : List Row → ℕ → ℕ → ℕ → Option Op
pick rows funct3 funct7 registers = option_map (λ r. r.op) (find (λ r. fits_fields r.form r.want funct3 funct7 registers) rows)

-- the operation of a word by the number made of its opcode and funct3 (two octal digits and one): by its fields, or by
-- the whole word if the rows have no fields
abbrev pub found_at : ℕ → ℕ → ℕ → Option Op
found_at key word registers =
    if key == 224 then option_map (λ r. r.op) (find (λ r. matches r word) (rows_of 115 table))
    else pick (rows_of (4 * (key / 8) + 3) table) (key % 8) (word / 2 ^ 25) registers
