-- A row's wanted bits and an instruction's fields at their places, as one sum: what the sum reads, form by form.
use Rattle.std.proofs.Common.{◌≡◌, ℕ, ◌+◌, ◌*◌, ◌/◌, ◌%◌, ◌^◌, ◌<◌, true, refl, ap, ◌∙◌, arith}
use Rattle.std.specs.Prelude.{◌==◌, bit_and, ℤ, pos, if◌then◌else◌}
use Rattle.std.specs.Int.{w64, cast_unsigned}
use Rattle.std.proofs.lemmas.Bool.{and_parts, and_from, eqb-true, eq-eqb}
use Rattle.rv64_table.specs.declared.Form.{Form}
use Rattle.rv64_table.specs.declared.Form.TheVariants.{R, I, H, K, S, B, U, J, E, L, A}
use Rattle.rv64_table.specs.Table.{mask_of}
use Rattle.rv64_table.specs.Inside.Lookup.{has_fields, fits_funct3, fits_registers, fits_funct7}
use Rattle.rv64_table.proofs.RowsByField.{matches-form}
use Rattle.rv64_table.proofs.Masks.{and-fixed}
use Rattle.rv64_table.proofs.RowIndices.{Wants}
use Rattle.rv64_decode.specs.Fields.{bits, branch_offset, jump_offset, signed, immediate, has_rd, has_rs1, has_rs2}
use Rattle.rv64_decode.specs.Encode.{immediate_bits, has_immediate, is_signed, is_multiple}
use Rattle.rv64_decode.proofs.Signed.{signed-code, unsigned-code, multiple-2, multiple-4096}

-- what is known of a row's wanted bits and an instruction's fields
pub record Given (form : Form) (want d a b : ℕ) (z : ℤ) : Type 0 where
  pub below : want < 2 ^ 32
  pub wants : has_fields form ≡ true → Wants form want
  pub rd : d < (if has_rd form then 32 else 1)
  pub rs1 : a < (if has_rs1 form then 32 else 1)
  pub rs2 : b < (if has_rs2 form then 32 else 1)
  pub imm : has_immediate form z ≡ true

-- what their sum reads
pub record Reads (form : Form) (want d a b : ℕ) (z : ℤ) (w : ℕ) : Type 0 where
  pub below : w < 2 ^ 32
  pub matches : (bit_and w (mask_of form) == want) ≡ true
  pub rd : (if has_rd form then bits w 11 7 else 0) ≡ d
  pub rs1 : (if has_rs1 form then bits w 19 15 else 0) ≡ a
  pub rs2 : (if has_rs2 form then bits w 24 20 else 0) ≡ b
  pub imm : immediate form w ≡ z

-- the low half of an immediate, whose bits are placed
abbrev pub low : ℤ → ℕ
low z = cast_unsigned w64 z % 2 ^ 32

-- a word with the wanted fields matches
matches-from : (form : Form) (want w : ℕ) → w < 2 ^ 32 → has_fields form ≡ true → Wants form want → w % 2 ^ 7 ≡ want % 2 ^ 7
    → fits_registers form (want / 2 ^ 15 % 2 ^ 10) (w / 2 ^ 15 % 2 ^ 10) ≡ true
    → fits_funct3 form (want / 2 ^ 12 % 2 ^ 3) (w / 2 ^ 12 % 2 ^ 3) ≡ true → fits_funct7 form (want / 2 ^ 25) (w / 2 ^ 25) ≡ true
    → (bit_and w (mask_of form) == want) ≡ true
matches-from form want w below fields wants opcode registers funct3 funct7 =
    matches-form form w want below fields
    ∙ and_from _ _ (eq-eqb _ _ opcode) (and_from _ _ (eq-eqb _ _ wants.rd) (and_from _ _ funct3 (and_from _ _ registers funct7)))

pub reads : (form : Form) (want d a b : ℕ) (z : ℤ) (w : ℕ) → Given form want d a b z
    → w ≡ want + d * 2 ^ 7 + a * 2 ^ 15 + b * 2 ^ 20 + immediate_bits form (low z) → Reads form want d a b z w
reads R want d a b z w g e =
    let wants = g.wants refl in
    let number : 0 ≡ low z % 2 ^ 0 = omega arith in
    let below : w < 2 ^ 32 = omega arith in
    record {
      below = below;
      matches = matches-from R want w below refl wants (omega arith) (eq-eqb _ _ wants.rs) (eq-eqb _ _ (omega arith)) (eq-eqb _ _ (omega arith));
      rd = omega arith;
      rs1 = omega arith;
      rs2 = omega arith;
      imm = ap pos number ∙ unsigned-code 0 z (omega arith) g.imm;
    }
reads I want d a b z w g e =
    let wants = g.wants refl in
    let funct7 : want / 2 ^ 25 ≡ 0 = eqb-true _ _ wants.funct7 in
    let number : bits w 31 20 ≡ low z % 2 ^ 12 = omega arith in
    let below : w < 2 ^ 32 = omega arith in
    record {
      below = below;
      matches = matches-from I want w below refl wants (omega arith) (eq-eqb _ _ wants.rs) (eq-eqb _ _ (omega arith)) (wants.funct7);
      rd = omega arith;
      rs1 = omega arith;
      rs2 = omega arith;
      imm = ap (signed 12) number ∙ signed-code 12 z (omega arith) (omega arith) g.imm;
    }
reads H want d a b z w g e =
    let wants = g.wants refl in
    let funct7 = and_parts (want / 2 ^ 25 % 2 == 0) _ wants.funct7 in
    let even : want / 2 ^ 25 % 2 ≡ 0 = eqb-true _ _ funct7.0 in
    let number : bits w 25 20 ≡ low z % 2 ^ 6 = omega arith in
    let below : w < 2 ^ 32 = omega arith in
    record {
      below = below;
      matches = matches-from H want w below refl wants (omega arith) (eq-eqb _ _ wants.rs) (eq-eqb _ _ (omega arith)) (and_from _ _ funct7.0 (eq-eqb _ _ (omega arith)));
      rd = omega arith;
      rs1 = omega arith;
      rs2 = omega arith;
      imm = ap pos number ∙ unsigned-code 6 z (omega arith) g.imm;
    }
reads K want d a b z w g e =
    let wants = g.wants refl in
    let number : bits w 24 20 ≡ low z % 2 ^ 5 = omega arith in
    let below : w < 2 ^ 32 = omega arith in
    record {
      below = below;
      matches = matches-from K want w below refl wants (omega arith) (eq-eqb _ _ wants.rs) (eq-eqb _ _ (omega arith)) (eq-eqb _ _ (omega arith));
      rd = omega arith;
      rs1 = omega arith;
      rs2 = omega arith;
      imm = ap pos number ∙ unsigned-code 5 z (omega arith) g.imm;
    }
reads S want d a b z w g e =
    let wants = g.wants refl in
    let funct7 : want / 2 ^ 25 ≡ 0 = eqb-true _ _ wants.funct7 in
    let number : bits w 31 25 * 2 ^ 5 + bits w 11 7 ≡ low z % 2 ^ 12 = omega arith in
    let below : w < 2 ^ 32 = omega arith in
    record {
      below = below;
      matches = matches-from S want w below refl wants (omega arith) (eq-eqb _ _ wants.rs) (eq-eqb _ _ (omega arith)) (wants.funct7);
      rd = omega arith;
      rs1 = omega arith;
      rs2 = omega arith;
      imm = ap (signed 12) number ∙ signed-code 12 z (omega arith) (omega arith) g.imm;
    }
reads B want d a b z w g e =
    let wants = g.wants refl in
    let funct7 : want / 2 ^ 25 ≡ 0 = eqb-true _ _ wants.funct7 in
    let range = and_parts (is_signed 13 z) (is_multiple 2 z) g.imm in
    let unit : low z % 2 ≡ 0 = multiple-2 z range.1 in
    let number : branch_offset w ≡ low z % 2 ^ 13 = omega arith in
    let below : w < 2 ^ 32 = omega arith in
    record {
      below = below;
      matches = matches-from B want w below refl wants (omega arith) (eq-eqb _ _ wants.rs) (eq-eqb _ _ (omega arith)) (wants.funct7);
      rd = omega arith;
      rs1 = omega arith;
      rs2 = omega arith;
      imm = ap (signed 13) number ∙ signed-code 13 z (omega arith) (omega arith) range.0;
    }
reads U want d a b z w g e =
    let wants = g.wants refl in
    let funct7 : want / 2 ^ 25 ≡ 0 = eqb-true _ _ wants.funct7 in
    let funct3 : want / 2 ^ 12 % 2 ^ 3 ≡ 0 = eqb-true _ _ wants.funct3 in
    let range = and_parts (is_signed 32 z) (is_multiple (2 ^ 12) z) g.imm in
    let unit : low z % 2 ^ 12 ≡ 0 = multiple-4096 z range.1 in
    let number : bits w 31 12 * 2 ^ 12 ≡ low z % 2 ^ 32 = omega arith in
    let below : w < 2 ^ 32 = omega arith in
    record {
      below = below;
      matches = matches-from U want w below refl wants (omega arith) (eq-eqb _ _ wants.rs) (wants.funct3) (wants.funct7);
      rd = omega arith;
      rs1 = omega arith;
      rs2 = omega arith;
      imm = ap (signed 32) number ∙ signed-code 32 z (omega arith) (omega arith) range.0;
    }
reads J want d a b z w g e =
    let wants = g.wants refl in
    let funct7 : want / 2 ^ 25 ≡ 0 = eqb-true _ _ wants.funct7 in
    let funct3 : want / 2 ^ 12 % 2 ^ 3 ≡ 0 = eqb-true _ _ wants.funct3 in
    let range = and_parts (is_signed 21 z) (is_multiple 2 z) g.imm in
    let unit : low z % 2 ≡ 0 = multiple-2 z range.1 in
    let number : jump_offset w ≡ low z % 2 ^ 21 = omega arith in
    let below : w < 2 ^ 32 = omega arith in
    record {
      below = below;
      matches = matches-from J want w below refl wants (omega arith) (eq-eqb _ _ wants.rs) (wants.funct3) (wants.funct7);
      rd = omega arith;
      rs1 = omega arith;
      rs2 = omega arith;
      imm = ap (signed 21) number ∙ signed-code 21 z (omega arith) (omega arith) range.0;
    }
reads E want d a b z w g e =
    let number : 0 ≡ low z % 2 ^ 0 = omega arith in
    let word : w ≡ want = omega arith in
    record {
      below = omega arith;
      matches = rw (word, and-fixed 32 want g.below) (eq-eqb _ _ refl);
      rd = omega arith;
      rs1 = omega arith;
      rs2 = omega arith;
      imm = ap pos number ∙ unsigned-code 0 z (omega arith) g.imm;
    }
reads L want d a b z w g e =
    let wants = g.wants refl in
    let funct7 = and_parts (want / 2 ^ 25 % 2 ^ 2 == 0) _ wants.funct7 in
    let even : want / 2 ^ 25 % 2 ^ 2 ≡ 0 = eqb-true _ _ funct7.0 in
    let free : want / 2 ^ 15 % 2 ^ 10 ≡ 0 = wants.rs in
    let number : bits w 26 25 ≡ low z % 2 ^ 2 = omega arith in
    let below : w < 2 ^ 32 = omega arith in
    let wanted : want / 2 ^ 15 % 2 ^ 10 % 2 ^ 5 ≡ 0 = omega arith in
    let rs2 : w / 2 ^ 15 % 2 ^ 10 / 2 ^ 5 ≡ want / 2 ^ 15 % 2 ^ 10 / 2 ^ 5 = omega arith in
    record {
      below = below;
      matches = matches-from L want w below refl wants (omega arith) (and_from _ _ (eq-eqb _ _ wanted) (eq-eqb _ _ rs2)) (eq-eqb _ _ (omega arith)) (and_from _ _ funct7.0 (eq-eqb _ _ (omega arith)));
      rd = omega arith;
      rs1 = omega arith;
      rs2 = omega arith;
      imm = ap pos number ∙ unsigned-code 2 z (omega arith) g.imm;
    }
reads A want d a b z w g e =
    let wants = g.wants refl in
    let funct7 = and_parts (want / 2 ^ 25 % 2 ^ 2 == 0) _ wants.funct7 in
    let even : want / 2 ^ 25 % 2 ^ 2 ≡ 0 = eqb-true _ _ funct7.0 in
    let free : want / 2 ^ 15 % 2 ^ 10 ≡ 0 = wants.rs in
    let number : bits w 26 25 ≡ low z % 2 ^ 2 = omega arith in
    let below : w < 2 ^ 32 = omega arith in
    record {
      below = below;
      matches = matches-from A want w below refl wants (omega arith) (eq-eqb _ _ wants.rs) (eq-eqb _ _ (omega arith)) (and_from _ _ funct7.0 (eq-eqb _ _ (omega arith)));
      rd = omega arith;
      rs1 = omega arith;
      rs2 = omega arith;
      imm = ap pos number ∙ unsigned-code 2 z (omega arith) g.imm;
    }
