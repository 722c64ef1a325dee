-- An instruction that lies in its form has one word, and a word's instruction lies in its form.
use Rattle.std.proofs.Common.{◌≡◌, ℕ, ◌+◌, ◌*◌, ◌^◌, ◌<◌, Bool, true, false, Option, Some, None, refl, sym, ap, ◌∙◌, arith, slice_index_or}
use Rattle.std.specs.Prelude.{◌==◌, nat_lt, bit_and, option_map, if◌then◌else◌}
use Rattle.std.proofs.lemmas.Bool.{and_parts, and_from, ltb-true, lt-ltb}
use Rattle.rv64_table.specs.declared.Row.{Row}
use Rattle.rv64_table.specs.declared.Op.TheVariants.{Lui}
use Rattle.rv64_table.specs.declared.Form.{Form}
use Rattle.rv64_table.specs.declared.Form.TheVariants.{R, I, H, K, S, B, U, J, E, L, A}
use Rattle.rv64_table.specs.Table.{mask_of, row, matches, row_for, row_with, op_number, table}
use Rattle.rv64_table.proofs.Apart.{row_for-matches}
use Rattle.rv64_table.proofs.OpRows.{row_with-at, op-at}
use Rattle.rv64_table.proofs.RowIndices.{find-listed, regular-at, row_with-row_for}
use Rattle.rv64_decode.specs.declared.Inst.{Inst}
use Rattle.rv64_decode.specs.Fields.{bits, branch_offset, jump_offset, immediate, has_rd, has_rs1, has_rs2}
use Rattle.rv64_decode.specs.Decode.{instruction, decoded}
use Rattle.rv64_decode.specs.Encode.{immediate_bits, joined_fields, has_immediate, fits_form, is_encodable}
use Rattle.rv64_decode.specs.Laws.{IsWordOf, HasOneWord, HasWordInForm}
use Rattle.rv64_decode.proofs.Signed.{signed-range, unsigned-range, signed-multiple}
use Rattle.rv64_decode.proofs.Encoded.{Given, reads, low}
use Rattle.rv64_decode.proofs.OneWord.{one-word}
use Rattle.rv64_decode.proofs.Decoding.{decoded-row}

-- a register that a form may lack lies in its range
register-matches : (named : Bool) (x : ℕ) → x < 32 → nat_lt (if named then x else 0) (if named then 32 else 1) ≡ true
register-matches true x h = lt-ltb x 32 h
register-matches false x h = refl

-- the immediate of a word lies in its form
immediate-matches : (form : Form) (w : ℕ) → has_immediate form (immediate form w) ≡ true
immediate-matches R w = refl
immediate-matches I w = signed-range 12 (bits w 31 20) (omega arith) (omega arith) (omega arith)
immediate-matches H w = unsigned-range 6 (bits w 25 20) (omega arith)
immediate-matches K w = unsigned-range 5 (bits w 24 20) (omega arith)
immediate-matches S w = signed-range 12 (bits w 31 25 * 2 ^ 5 + bits w 11 7) (omega arith) (omega arith) (omega arith)
immediate-matches B w =
    let offset = branch_offset w in
    and_from _ _ (signed-range 13 offset (omega arith) (omega arith) (omega arith)) (signed-multiple 13 1 offset (omega arith) (omega arith) (omega arith))
immediate-matches U w =
    let value = bits w 31 12 * 2 ^ 12 in
    and_from _ _ (signed-range 32 value (omega arith) (omega arith) (omega arith)) (signed-multiple 32 12 value (omega arith) (omega arith) (omega arith))
immediate-matches J w =
    let offset = jump_offset w in
    and_from _ _ (signed-range 21 offset (omega arith) (omega arith) (omega arith)) (signed-multiple 21 1 offset (omega arith) (omega arith) (omega arith))
immediate-matches E w = refl
immediate-matches L w = unsigned-range 2 (bits w 26 25) (omega arith)
immediate-matches A w = unsigned-range 2 (bits w 26 25) (omega arith)

pub instruction-matches : (r : Row) (w : ℕ) → fits_form r.form (instruction r w) ≡ true
instruction-matches r w =
    and_from _ _ (register-matches (has_rd r.form) (bits w 11 7) (omega arith))
    (and_from _ _ (register-matches (has_rs1 r.form) (bits w 19 15) (omega arith))
    (and_from _ _ (register-matches (has_rs2 r.form) (bits w 24 20) (omega arith))
    (immediate-matches r.form w)))

-- the row of a word that has an instruction
record Found (w : ℕ) (i : Inst) : Type 0 where
  row : Row
  at : row_for w ≡ Some row
  is : instruction row w ≡ i

found-in : (w : ℕ) (i : Inst) (o : Option Row) → row_for w ≡ o → option_map (λ r. instruction r w) o ≡ Some i → Found w i
found-in w i None at e = cc
found-in w i (Some r) at e = let is : instruction r w ≡ i = cc in record { row = r; at = at; is = is }

found : (w : ℕ) (i : Inst) → decoded w ≡ Some i → Found w i
unfolding decoded
found w i e = found-in w i (row_for w) refl e

-- the instruction of a word lies in its form
pub decoded-encodable : (w : ℕ) (i : Inst) → decoded w ≡ Some i → is_encodable i ≡ true
decoded-encodable w i e =
    let f = found w i e in
    rw (← f.is) (rw (row_with-row_for w f.row f.at) (instruction-matches f.row w))

-- what an instruction in its form and its row give
given : (i : Inst) (r : Row) → row_with i.op ≡ Some r → is_encodable i ≡ true → Given r.form r.want i.rd i.rs1 i.rs2 i.imm
given i r e h =
    let listed = find-listed (λ s. op_number s.op == op_number i.op) table r e in
    let regular = regular-at listed.index r listed.at in
    let fields : fits_form r.form i ≡ true = rw e at h in
    let rd = and_parts (nat_lt i.rd (if has_rd r.form then 32 else 1)) _ fields in
    let rs1 = and_parts (nat_lt i.rs1 (if has_rs1 r.form then 32 else 1)) _ rd.1 in
    let rs2 = and_parts (nat_lt i.rs2 (if has_rs2 r.form then 32 else 1)) _ rs1.1 in
    record {
      below = regular.below;
      wants = regular.wants;
      rd = ltb-true _ _ rd.0;
      rs1 = ltb-true _ _ rs1.0;
      rs2 = ltb-true _ _ rs2.0;
      imm = rs2.1;
    }

same-fields : (i : Inst) (r : Row) (w : ℕ) → r.op ≡ i.op → (if has_rd r.form then bits w 11 7 else 0) ≡ i.rd → (if has_rs1 r.form then bits w 19 15 else 0) ≡ i.rs1
    → (if has_rs2 r.form then bits w 24 20 else 0) ≡ i.rs2 → immediate r.form w ≡ i.imm → instruction r w ≡ i
same-fields i r w op rd rs1 rs2 imm = rw (op, rd, rs1, rs2, imm) refl

-- as the sum of the row's wanted bits and the fields at their places is
pub joined-word : (i : Inst) (r : Row) (n : ℕ) → row_with i.op ≡ Some r → r.op ≡ i.op → is_encodable i ≡ true
    → n ≡ immediate_bits r.form (low i.imm) → IsWordOf i (joined_fields r.want i n)
joined-word i r n e op h immediate =
    let w : ℕ = joined_fields r.want i n in
    let reading = reads r.form r.want i.rd i.rs1 i.rs2 i.imm w (given i r e h) (ap (joined_fields r.want i) immediate) in
    let listed = find-listed (λ s. op_number s.op == op_number i.op) table r e in
    let regular = regular-at listed.index r listed.at in
    let fit : matches r w ≡ true = rw regular.mask reading.matches in
    let fields = same-fields i r w op reading.rd reading.rs1 reading.rs2 reading.imm in
    record { below = reading.below; decodes = decoded-row w r (row_for-matches w listed.index r listed.at fit) ∙ ap Some fields }

-- a word of a row matches it
row-matches : (w : ℕ) (r : Row) → row_for w ≡ Some r → (bit_and w (mask_of r.form) == r.want) ≡ true
row-matches w r e =
    let listed = find-listed (λ s. matches s w) table r e in
    let regular = regular-at listed.index r listed.at in
    rw (← regular.mask) listed.passes

-- the only one
pub one-word-of : HasOneWord
one-word-of i v w own other =
    let fv = found v i own.decodes in
    let fw = found w i other.decodes in
    let ops : fv.row.op ≡ fw.row.op = ap (λ j. j.op) (fv.is ∙ sym fw.is) in
    let some : Some fv.row ≡ Some fw.row = sym (row_with-row_for v fv.row fv.at) ∙ ap row_with ops ∙ row_with-row_for w fw.row fw.at in
    let rows : fv.row ≡ fw.row = cc in
    let at : row_for w ≡ Some fv.row = fw.at ∙ ap Some (sym rows) in
    let same : instruction fv.row v ≡ instruction fv.row w = fv.is ∙ sym (ap (λ r. instruction r w) rows ∙ fw.is) in
    one-word fv.row.form fv.row.want v w (record {
      below_v = own.below;
      below_w = other.below;
      fits_v = row-matches v fv.row fv.at;
      fits_w = row-matches w fv.row at;
      rd = ap (λ j. j.rd) same;
      rs1 = ap (λ j. j.rs1) same;
      rs2 = ap (λ j. j.rs2) same;
      imm = ap (λ j. j.imm) same;
    })

-- the row of an instruction's operation, which stands at the operation's number
abbrev row_at : Inst → Row
row_at i = slice_index_or table (op_number i.op) (row U 0x37 0 0 Lui)

abbrev word_at : Inst → ℕ
word_at i = joined_fields (row_at i).want i (immediate_bits (row_at i).form (low i.imm))

row_at-word : (i : Inst) → is_encodable i ≡ true → IsWordOf i (word_at i)
row_at-word i h = joined-word i (row_at i) (immediate_bits (row_at i).form (low i.imm)) (row_with-at i.op _) (op-at i.op _) h refl

pub word-in-form : HasWordInForm
word-in-form i = ((λ own. decoded-encodable own.0 i ((own.1).decodes)), (λ h. (word_at i, row_at-word i h)))
