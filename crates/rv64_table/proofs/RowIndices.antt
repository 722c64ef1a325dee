-- The places of rows in the table.
use Rattle.std.proofs.Common.{◌≡◌, ℕ, ◌+◌, ◌/◌, ◌%◌, ◌^◌, ◌<◌, zero, suc, Bool, true, ◌&&◌, ◌||◌, not, List, [], ◌∷◌, Some, refl, ap, ◌∙◌, arith, ⊎_elim, slice_index_or}
use Rattle.std.specs.Prelude.{◌==◌, nat_lt, Option, None, find, slice_get, option_map}
use Rattle.std.specs.List.{list_all}
use Rattle.std.proofs.lemmas.Bool.{and_parts, eqb-true, ltb-true, cases_Bool}
use Rattle.rv64_table.specs.declared.Row.{Row}
use Rattle.rv64_table.specs.declared.Form.{Form}
use Rattle.rv64_table.specs.declared.Op.{Op}
use Rattle.rv64_table.specs.Table.{mask_of, matches, row_for, table, row_with, op_number}
use Rattle.rv64_table.specs.Inside.Lookup.{has_fields, fits_funct3, fits_funct7, fits_fields}
use Rattle.rv64_table.proofs.OpRows.{row_with-at}

-- a test that all pass holds of the one at a place
pub list_all-at : (p : Row → Bool) (rows : List Row) (i : ℕ) (s : Row) → list_all p rows ≡ true → slice_get rows i ≡ Some s → p s ≡ true
list_all-at p [] i s h e = cc
list_all-at p (r ∷ rows) zero s h e = let same : r ≡ s = cc in rw (← same) ((and_parts (p r) (list_all p rows) h).0)
list_all-at p (r ∷ rows) (suc i) s h e = list_all-at p rows i s ((and_parts (p r) (list_all p rows) h).1) e

-- a row that passes a test, and its place
pub record IsListed (test : Row → Bool) (rows : List Row) (r : Row) : Type 0 where
  pub index : ℕ
  pub at : slice_get rows index ≡ Some r
  pub passes : test r ≡ true

-- what `find` finds is such a row
pub find-listed : (test : Row → Bool) (rows : List Row) (r : Row) → find test rows ≡ Some r → IsListed test rows r
find-listed test [] r e = cc
find-listed test (x ∷ rows) r e = ⊎_elim
    (λ yes. let found = rw yes at e in let same : x ≡ r = cc in
    record { index = zero; at = ap Some same; passes = rw (← same) yes })
    (λ no. let found = find-listed test rows r (rw no at e) in
    record { index = suc found.index; at = found.at; passes = found.passes })
    (cases_Bool (test x))

-- the rows have the numbers from here on
abbrev pub is_numbered : ℕ → List Row → Bool
is_numbered n [] = true
is_numbered n (r ∷ rows) = (op_number r.op == n) && is_numbered (suc n) rows

number-at : (n : ℕ) (rows : List Row) (i : ℕ) (r : Row) → is_numbered n rows ≡ true → slice_get rows i ≡ Some r → op_number r.op ≡ n + i
number-at n [] i r h e = cc
number-at n (x ∷ rows) zero r h e =
    let same : x ≡ r = cc in
    let first : op_number x.op ≡ n = eqb-true _ _ ((and_parts (op_number x.op == n) (is_numbered (suc n) rows) h).0) in
    rw (← same) (omega (arith, first))
number-at n (x ∷ rows) (suc i) r h e =
    let rest = number-at (suc n) rows i r ((and_parts (op_number x.op == n) (is_numbered (suc n) rows) h).1) e in omega (arith, rest)

-- a listed element is the one that its index reads
index-at : (rows : List Row) (i : ℕ) (r d : Row) → slice_get rows i ≡ Some r → slice_index_or rows i d ≡ r
index-at [] i r d e = cc
index-at (x ∷ rows) zero r d e = cc
index-at (x ∷ rows) (suc i) r d e = index-at rows i r d e

-- a row at a place of the table is the row of its operation
pub row_with-listed : (i : ℕ) (r : Row) → slice_get table i ≡ Some r → row_with r.op ≡ Some r
unfolding table
row_with-listed i r e =
    let index : op_number r.op ≡ i = number-at 0 table i r refl e ∙ omega arith in
    row_with-at r.op r ∙ ap Some (rw index (index-at table i r r e))

-- so is the row of a word
pub row_with-row_for : (w : ℕ) (r : Row) → row_for w ≡ Some r → row_with r.op ≡ Some r
row_with-row_for w r e = let found = find-listed (λ s. matches s w) table r e in row_with-listed found.index r found.at

-- the row of a word of which the operation is known
pub record IsFound (w : ℕ) (op : Op) (r : Row) : Type 0 where
  pub found : row_for w ≡ Some r
  pub same : r.op ≡ op
  pub own : row_with op ≡ Some r

found-op : (w : ℕ) (op : Op) (o : Option Row) → row_for w ≡ o → option_map (λ s. s.op) o ≡ Some op → (r : Row) × IsFound w op r
found-op w op None f e = cc
found-op w op (Some s) f e =
    let same : s.op ≡ op = cc in
    (s, record { found = f; same = same; own = rw (← same) (row_with-row_for w s f) })

pub row_for-op : (w : ℕ) (op : Op) → option_map (λ s. s.op) (row_for w) ≡ Some op → (r : Row) × IsFound w op r
row_for-op w op e = found-op w op (row_for w) refl e

-- a row of this form wants its own fields, as it must to fit any word, and 0 elsewhere
abbrev pub is_regular : Row → Bool
is_regular r =
    (r.mask == mask_of r.form)
    && (nat_lt r.want (2 ^ 32)
    && (not (has_fields r.form)
    || ((r.want / 2 ^ 15 % 2 ^ 10 == 0) && fits_fields r.form r.want (r.want / 2 ^ 12 % 2 ^ 3) (r.want / 2 ^ 25) (r.want / 2 ^ 15 % 2 ^ 10))))

-- the parts of what a form with fields wants
pub record Wants (form : Form) (want : ℕ) : Type 0 where
  pub rd : want / 2 ^ 7 % 2 ^ 5 ≡ 0
  pub funct3 : fits_funct3 form (want / 2 ^ 12 % 2 ^ 3) (want / 2 ^ 12 % 2 ^ 3) ≡ true
  pub rs : want / 2 ^ 15 % 2 ^ 10 ≡ 0
  pub funct7 : fits_funct7 form (want / 2 ^ 25) (want / 2 ^ 25) ≡ true

wants : (form : Form) (want : ℕ) → (not (has_fields form)
    || ((want / 2 ^ 15 % 2 ^ 10 == 0) && fits_fields form want (want / 2 ^ 12 % 2 ^ 3) (want / 2 ^ 25) (want / 2 ^ 15 % 2 ^ 10))) ≡ true → has_fields form ≡ true
    → Wants form want
wants form want h p =
    let own = rw p at h in
    let free = and_parts _ _ own in
    let rd = and_parts _ _ free.1 in
    let funct3 = and_parts _ _ rd.1 in
    let rs = and_parts _ _ funct3.1 in
    record { rd = eqb-true _ _ rd.0; funct3 = funct3.0; rs = eqb-true _ _ free.0; funct7 = rs.1 }

-- what holds of each row of the table
pub record IsRegular (r : Row) : Type 0 where
  pub mask : r.mask ≡ mask_of r.form
  pub below : r.want < 2 ^ 32
  pub wants : has_fields r.form ≡ true → Wants r.form r.want

pub regular-at : (i : ℕ) (r : Row) → slice_get table i ≡ Some r → IsRegular r
unfolding table
regular-at i r e =
    let all : is_regular r ≡ true = list_all-at is_regular table i r refl e in
    let mask = and_parts (r.mask == mask_of r.form) _ all in
    let below = and_parts (nat_lt r.want (2 ^ 32)) _ mask.1 in
    record { mask = eqb-true _ _ mask.0; below = ltb-true _ _ below.0; wants = wants r.form r.want below.1 }
