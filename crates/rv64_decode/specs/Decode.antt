-- The instruction of a word.
use Rattle.std.specs.Prelude.{ℕ, Option, option_map, if◌then◌else◌}
use Rattle.rv64_table.specs.declared.Row.{Row}
use Rattle.rv64_table.specs.Table.{row_for}
use Rattle.rv64_decode.specs.declared.Inst.{Inst}
use Rattle.rv64_decode.specs.Fields.{bits, immediate, has_rd, has_rs1, has_rs2}

-- the fields of a word by a row: registers and immediate from their bits, 0 if the row's form has none
abbrev pub instruction : Row → ℕ → Inst
instruction row word = record {
  op = row.op;
  rd = (if has_rd row.form then bits word 11 7 else 0);
  rs1 = (if has_rs1 row.form then bits word 19 15 else 0);
  rs2 = (if has_rs2 row.form then bits word 24 20 else 0);
  imm = immediate row.form word;
}

-- the instruction of a word: its row's operation and fields; none if the word has no row
unfoldable pub decoded : ℕ → Option Inst
decoded word = option_map (λ row. instruction row word) (row_for word)
