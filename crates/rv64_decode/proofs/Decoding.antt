-- What the row of a word says of its instruction.
use Rattle.std.proofs.Common.{◌≡◌, ℕ, Option, Some, None, refl, ap, sym, ◌∙◌}
use Rattle.std.specs.Prelude.{option_map, if◌then◌else◌}
use Rattle.rv64_table.specs.declared.Row.{Row}
use Rattle.rv64_table.specs.declared.Op.{Op}
use Rattle.rv64_table.specs.declared.Form.{Form}
use Rattle.rv64_table.proofs.RowIndices.{row_for-op}
use Rattle.rv64_decode.specs.Fields.{bits, immediate, has_rd, has_rs1, has_rs2}
use Rattle.rv64_table.specs.Table.{row_for, row_with}
use Rattle.rv64_decode.specs.declared.Inst.{Inst}
use Rattle.rv64_decode.specs.Text.{text, form_text}
use Rattle.rv64_decode.specs.Decode.{instruction, decoded}

missing : (w : ℕ) (found : Option Row) → option_map (λ r. r.op) found ≡ None → option_map (λ r. instruction r w) found ≡ None
missing w None e = refl
missing w (Some r) e = cc

-- a word with no row has no instruction
pub decoded-none : (w : ℕ) → option_map (λ r. r.op) (row_for w) ≡ None → decoded w ≡ None
unfolding decoded
decoded-none w e = missing w (row_for w) e

-- a word with a row has its fields
pub decoded-row : (w : ℕ) (r : Row) → row_for w ≡ Some r → decoded w ≡ Some (instruction r w)
unfolding decoded
decoded-row w r e = rw e refl

-- the fields of a word by its operation and form
abbrev pub fields : Op → Form → ℕ → Inst
fields op form w = record {
  op = op;
  rd = (if has_rd form then bits w 11 7 else 0);
  rs1 = (if has_rs1 form then bits w 19 15 else 0);
  rs2 = (if has_rs2 form then bits w 24 20 else 0);
  imm = immediate form w;
}

pub decoded-fields : (w : ℕ) (op : Op) (form : Form) → option_map (λ r. r.op) (row_for w) ≡ Some op → option_map (λ r. r.form) (row_with op) ≡ Some form
    → decoded w ≡ Some (fields op form w)
decoded-fields w op form e f =
    let own = row_for-op w op e in
    let row : Row = own.0 in
    let some : Some row.form ≡ Some form = sym (ap (option_map (λ r. r.form)) (own.1).own) ∙ f in
    let same : row.form ≡ form = cc in
    let read : instruction row w ≡ fields op form w = rw ((own.1).same, same) refl in
    decoded-row w row (own.1).found ∙ ap Some read

-- the text of an instruction whose operation has this row
pub text-row : (i : Inst) (pc : ℕ) (r : Row) → row_with i.op ≡ Some r → text i pc ≡ form_text r.form i pc
unfolding text
text-row i pc r e = rw e refl
