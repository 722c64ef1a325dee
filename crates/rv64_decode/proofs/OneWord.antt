-- No two words of a row have the same fields.
use Rattle.std.proofs.Common.{◌≡◌, ℕ, ◌+◌, ◌-◌, ◌*◌, ◌/◌, ◌%◌, ◌^◌, ◌<◌, true, refl, sym, ◌∙◌, arith}
use Rattle.std.specs.Prelude.{◌==◌, bit_and, pos, if◌then◌else◌}
use Rattle.std.proofs.lemmas.Bool.{and_parts, eqb-true}
use Rattle.rv64_table.specs.declared.Form.{Form}
use Rattle.rv64_table.specs.declared.Form.TheVariants.{R, I, H, K, S, B, U, J, E, L, A}
use Rattle.rv64_table.specs.Table.{mask_of}
use Rattle.rv64_table.specs.Inside.Lookup.{has_fields, fits_funct3, fits_registers, fits_funct7}
use Rattle.rv64_table.proofs.RowsByField.{matches-form}
use Rattle.rv64_table.proofs.Masks.{and-fixed}
use Rattle.rv64_decode.specs.Fields.{bits, branch_offset, jump_offset, immediate, has_rd, has_rs1, has_rs2}
use Rattle.rv64_decode.proofs.Signed.{signed-same}

-- what a word that matches has in its fixed fields
record Fixed (form : Form) (want w : ℕ) : Type 0 where
  opcode : w % 2 ^ 7 ≡ want % 2 ^ 7
  funct3 : fits_funct3 form (want / 2 ^ 12 % 2 ^ 3) (w / 2 ^ 12 % 2 ^ 3) ≡ true
  registers : fits_registers form (want / 2 ^ 15 % 2 ^ 10) (w / 2 ^ 15 % 2 ^ 10) ≡ true
  funct7 : fits_funct7 form (want / 2 ^ 25) (w / 2 ^ 25) ≡ true

fixed : (form : Form) (want w : ℕ) → w < 2 ^ 32 → has_fields form ≡ true → (bit_and w (mask_of form) == want) ≡ true → Fixed form want w
fixed form want w below fields matches =
    let opcode = and_parts (w % 2 ^ 7 == want % 2 ^ 7) _ (sym (matches-form form w want below fields) ∙ matches) in
    let rd = and_parts _ _ opcode.1 in
    let funct3 = and_parts _ _ rd.1 in
    let rs = and_parts _ _ funct3.1 in
    record { opcode = eqb-true _ _ opcode.0; funct3 = funct3.0; registers = rs.0; funct7 = rs.1 }

-- two words of a row with the same fields
pub record Alike (form : Form) (want v w : ℕ) : Type 0 where
  pub below_v : v < 2 ^ 32
  pub below_w : w < 2 ^ 32
  pub fits_v : (bit_and v (mask_of form) == want) ≡ true
  pub fits_w : (bit_and w (mask_of form) == want) ≡ true
  pub rd : (if has_rd form then bits v 11 7 else 0) ≡ (if has_rd form then bits w 11 7 else 0)
  pub rs1 : (if has_rs1 form then bits v 19 15 else 0) ≡ (if has_rs1 form then bits w 19 15 else 0)
  pub rs2 : (if has_rs2 form then bits v 24 20 else 0) ≡ (if has_rs2 form then bits w 24 20 else 0)
  pub imm : immediate form v ≡ immediate form w

-- a branch's offset has bits 31..25 and 11..7, a jump's bits 31..12
branch-bits : (v w : ℕ) → v < 2 ^ 32 → w < 2 ^ 32 → branch_offset v ≡ branch_offset w
    → (v / 2 ^ 25 ≡ w / 2 ^ 25) × (v / 2 ^ 7 % 2 ^ 5 ≡ w / 2 ^ 7 % 2 ^ 5)
branch-bits v w hv hw e =
    let top : bits v 31 31 ≡ bits w 31 31 = omega arith in
    let next : bits v 7 7 ≡ bits w 7 7 = omega arith in
    let high : bits v 30 25 ≡ bits w 30 25 = omega arith in
    let low : bits v 11 8 ≡ bits w 11 8 = omega arith in
    (omega (arith, top, high), omega (arith, next, low))

jump-bits : (v w : ℕ) → v < 2 ^ 32 → w < 2 ^ 32 → jump_offset v ≡ jump_offset w
    → v / 2 ^ 12 ≡ w / 2 ^ 12
jump-bits v w hv hw e =
    let top : bits v 31 31 ≡ bits w 31 31 = omega arith in
    let high : bits v 19 12 ≡ bits w 19 12 = omega arith in
    let next : bits v 20 20 ≡ bits w 20 20 = omega arith in
    let low : bits v 30 21 ≡ bits w 30 21 = omega arith in
    omega (arith, top, high, next, low)

pub one-word : (form : Form) (want v w : ℕ) → Alike form want v w → v ≡ w
one-word R want v w g =
    let fv = fixed R want v g.below_v refl g.fits_v in
    let fw = fixed R want w g.below_w refl g.fits_w in
    let v3 : v / 2 ^ 12 % 2 ^ 3 ≡ want / 2 ^ 12 % 2 ^ 3 = eqb-true _ _ fv.funct3 in
    let w3 : w / 2 ^ 12 % 2 ^ 3 ≡ want / 2 ^ 12 % 2 ^ 3 = eqb-true _ _ fw.funct3 in
    let v7 : v / 2 ^ 25 ≡ want / 2 ^ 25 = eqb-true _ _ fv.funct7 in
    let w7 : w / 2 ^ 25 ≡ want / 2 ^ 25 = eqb-true _ _ fw.funct7 in
    omega arith
one-word I want v w g =
    let fv = fixed I want v g.below_v refl g.fits_v in
    let fw = fixed I want w g.below_w refl g.fits_w in
    let v3 : v / 2 ^ 12 % 2 ^ 3 ≡ want / 2 ^ 12 % 2 ^ 3 = eqb-true _ _ fv.funct3 in
    let w3 : w / 2 ^ 12 % 2 ^ 3 ≡ want / 2 ^ 12 % 2 ^ 3 = eqb-true _ _ fw.funct3 in
    let same : bits v 31 20 ≡ bits w 31 20 = signed-same 12 _ _ (omega arith) (omega arith) g.imm in
    omega arith
one-word H want v w g =
    let fv = fixed H want v g.below_v refl g.fits_v in
    let fw = fixed H want w g.below_w refl g.fits_w in
    let v3 : v / 2 ^ 12 % 2 ^ 3 ≡ want / 2 ^ 12 % 2 ^ 3 = eqb-true _ _ fv.funct3 in
    let w3 : w / 2 ^ 12 % 2 ^ 3 ≡ want / 2 ^ 12 % 2 ^ 3 = eqb-true _ _ fw.funct3 in
    let v6 = and_parts (want / 2 ^ 25 % 2 == 0) (v / 2 ^ 25 / 2 == want / 2 ^ 25 / 2) fv.funct7 in
    let w6 = and_parts (want / 2 ^ 25 % 2 == 0) (w / 2 ^ 25 / 2 == want / 2 ^ 25 / 2) fw.funct7 in
    let v7 : v / 2 ^ 25 / 2 ≡ want / 2 ^ 25 / 2 = eqb-true _ _ v6.1 in
    let w7 : w / 2 ^ 25 / 2 ≡ want / 2 ^ 25 / 2 = eqb-true _ _ w6.1 in
    let same : bits v 25 20 ≡ bits w 25 20 = let both : pos (bits v 25 20) ≡ pos (bits w 25 20) = g.imm in cc in
    omega arith
one-word K want v w g =
    let fv = fixed K want v g.below_v refl g.fits_v in
    let fw = fixed K want w g.below_w refl g.fits_w in
    let v3 : v / 2 ^ 12 % 2 ^ 3 ≡ want / 2 ^ 12 % 2 ^ 3 = eqb-true _ _ fv.funct3 in
    let w3 : w / 2 ^ 12 % 2 ^ 3 ≡ want / 2 ^ 12 % 2 ^ 3 = eqb-true _ _ fw.funct3 in
    let v7 : v / 2 ^ 25 ≡ want / 2 ^ 25 = eqb-true _ _ fv.funct7 in
    let w7 : w / 2 ^ 25 ≡ want / 2 ^ 25 = eqb-true _ _ fw.funct7 in
    let same : bits v 24 20 ≡ bits w 24 20 = let both : pos (bits v 24 20) ≡ pos (bits w 24 20) = g.imm in cc in
    omega arith
one-word S want v w g =
    let fv = fixed S want v g.below_v refl g.fits_v in
    let fw = fixed S want w g.below_w refl g.fits_w in
    let v3 : v / 2 ^ 12 % 2 ^ 3 ≡ want / 2 ^ 12 % 2 ^ 3 = eqb-true _ _ fv.funct3 in
    let w3 : w / 2 ^ 12 % 2 ^ 3 ≡ want / 2 ^ 12 % 2 ^ 3 = eqb-true _ _ fw.funct3 in
    let same : bits v 31 25 * 2 ^ 5 + bits v 11 7 ≡ bits w 31 25 * 2 ^ 5 + bits w 11 7 = signed-same 12 _ _ (omega arith) (omega arith) g.imm in
    omega arith
one-word B want v w g =
    let fv = fixed B want v g.below_v refl g.fits_v in
    let fw = fixed B want w g.below_w refl g.fits_w in
    let v3 : v / 2 ^ 12 % 2 ^ 3 ≡ want / 2 ^ 12 % 2 ^ 3 = eqb-true _ _ fv.funct3 in
    let w3 : w / 2 ^ 12 % 2 ^ 3 ≡ want / 2 ^ 12 % 2 ^ 3 = eqb-true _ _ fw.funct3 in
    let same : branch_offset v ≡ branch_offset w = signed-same 13 _ _ (omega arith) (omega arith) g.imm in
    let parts = branch-bits v w g.below_v g.below_w same in
    omega (arith, parts)
one-word U want v w g =
    let fv = fixed U want v g.below_v refl g.fits_v in
    let fw = fixed U want w g.below_w refl g.fits_w in
    let same : bits v 31 12 * 2 ^ 12 ≡ bits w 31 12 * 2 ^ 12 = signed-same 32 _ _ (omega arith) (omega arith) g.imm in
    omega arith
one-word J want v w g =
    let fv = fixed J want v g.below_v refl g.fits_v in
    let fw = fixed J want w g.below_w refl g.fits_w in
    let same : jump_offset v ≡ jump_offset w = signed-same 21 _ _ (omega arith) (omega arith) g.imm in
    let parts = jump-bits v w g.below_v g.below_w same in
    omega (arith, parts)
one-word E want v w g =
    let ev : bit_and v (2 ^ 32 - 1) ≡ want = eqb-true _ _ g.fits_v in
    let ew : bit_and w (2 ^ 32 - 1) ≡ want = eqb-true _ _ g.fits_w in
    sym (and-fixed 32 v g.below_v) ∙ ev ∙ sym ew ∙ and-fixed 32 w g.below_w
one-word L want v w g =
    let fv = fixed L want v g.below_v refl g.fits_v in
    let fw = fixed L want w g.below_w refl g.fits_w in
    let v3 : v / 2 ^ 12 % 2 ^ 3 ≡ want / 2 ^ 12 % 2 ^ 3 = eqb-true _ _ fv.funct3 in
    let w3 : w / 2 ^ 12 % 2 ^ 3 ≡ want / 2 ^ 12 % 2 ^ 3 = eqb-true _ _ fw.funct3 in
    let vr = and_parts (want / 2 ^ 15 % 2 ^ 10 % 2 ^ 5 == 0) (v / 2 ^ 15 % 2 ^ 10 / 2 ^ 5 == want / 2 ^ 15 % 2 ^ 10 / 2 ^ 5) fv.registers in
    let wr = and_parts (want / 2 ^ 15 % 2 ^ 10 % 2 ^ 5 == 0) (w / 2 ^ 15 % 2 ^ 10 / 2 ^ 5 == want / 2 ^ 15 % 2 ^ 10 / 2 ^ 5) fw.registers in
    let v2 : v / 2 ^ 15 % 2 ^ 10 / 2 ^ 5 ≡ want / 2 ^ 15 % 2 ^ 10 / 2 ^ 5 = eqb-true _ _ vr.1 in
    let w2 : w / 2 ^ 15 % 2 ^ 10 / 2 ^ 5 ≡ want / 2 ^ 15 % 2 ^ 10 / 2 ^ 5 = eqb-true _ _ wr.1 in
    let v5 = and_parts (want / 2 ^ 25 % 2 ^ 2 == 0) (v / 2 ^ 25 / 2 ^ 2 == want / 2 ^ 25 / 2 ^ 2) fv.funct7 in
    let w5 = and_parts (want / 2 ^ 25 % 2 ^ 2 == 0) (w / 2 ^ 25 / 2 ^ 2 == want / 2 ^ 25 / 2 ^ 2) fw.funct7 in
    let v7 : v / 2 ^ 25 / 2 ^ 2 ≡ want / 2 ^ 25 / 2 ^ 2 = eqb-true _ _ v5.1 in
    let w7 : w / 2 ^ 25 / 2 ^ 2 ≡ want / 2 ^ 25 / 2 ^ 2 = eqb-true _ _ w5.1 in
    let same : bits v 26 25 ≡ bits w 26 25 = let both : pos (bits v 26 25) ≡ pos (bits w 26 25) = g.imm in cc in
    omega arith
one-word A want v w g =
    let fv = fixed A want v g.below_v refl g.fits_v in
    let fw = fixed A want w g.below_w refl g.fits_w in
    let v3 : v / 2 ^ 12 % 2 ^ 3 ≡ want / 2 ^ 12 % 2 ^ 3 = eqb-true _ _ fv.funct3 in
    let w3 : w / 2 ^ 12 % 2 ^ 3 ≡ want / 2 ^ 12 % 2 ^ 3 = eqb-true _ _ fw.funct3 in
    let v5 = and_parts (want / 2 ^ 25 % 2 ^ 2 == 0) (v / 2 ^ 25 / 2 ^ 2 == want / 2 ^ 25 / 2 ^ 2) fv.funct7 in
    let w5 = and_parts (want / 2 ^ 25 % 2 ^ 2 == 0) (w / 2 ^ 25 / 2 ^ 2 == want / 2 ^ 25 / 2 ^ 2) fw.funct7 in
    let v7 : v / 2 ^ 25 / 2 ^ 2 ≡ want / 2 ^ 25 / 2 ^ 2 = eqb-true _ _ v5.1 in
    let w7 : w / 2 ^ 25 / 2 ^ 2 ≡ want / 2 ^ 25 / 2 ^ 2 = eqb-true _ _ w5.1 in
    let same : bits v 26 25 ≡ bits w 26 25 = let both : pos (bits v 26 25) ≡ pos (bits w 26 25) = g.imm in cc in
    omega arith
