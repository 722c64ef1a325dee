-- The row of a word, by its opcode and then by its fields.
use Rattle.std.proofs.Common.{◌≡◌, ℕ, ◌+◌, ◌*◌, ◌/◌, ◌%◌, ◌^◌, ◌<◌, Bool, true, false, ◌&&◌, ◌||◌, cond, List, [], ◌∷◌, refl, sym, ap, ◌∙◌, subst, arith, Option, None, Some, IfSome}
use Rattle.std.specs.Prelude.{◌==◌, bit_and, find, if◌then◌else◌, option_map}
use Rattle.std.specs.List.{list_all}
use Rattle.std.proofs.lemmas.Nat.{and_mask, shr_below}
use Rattle.std.proofs.lemmas.Bool.{and_parts, eqb-true}
use Rattle.std.proofs.lemmas.Bool.Decides.{nat_tests}
use Rattle.rv64_table.specs.declared.Row.{Row}
use Rattle.rv64_table.specs.declared.Form.{Form}
use Rattle.rv64_table.specs.declared.Op.{Op}
use Rattle.rv64_table.specs.declared.Form.TheVariants.{R, I, H, K, S, B, U, J, E, L, A}
use Rattle.rv64_table.specs.Table.{mask_of, matches, row_for, table}
use Rattle.rv64_table.specs.Inside.Lookup.{rows_of, found_at, has_fields, fits_fields, pick}
use Rattle.rv64_table.proofs.Masks.{test-parts, test-fields, test-high, and-fixed, test-free}

-- a word matches a row with fields where its opcode, funct3 and funct7 do
pub matches-form : (form : Form) (w v : ℕ) → w < 2 ^ 32 → has_fields form ≡ true
    → (bit_and w (mask_of form) == v) ≡ ((w % 2 ^ 7 == v % 2 ^ 7) && fits_fields form v (w / 2 ^ 12 % 2 ^ 3) (w / 2 ^ 25) (w / 2 ^ 15 % 2 ^ 10))
matches-form form w v h p =
    let opcode : bit_and (w % 2 ^ 7) 127 ≡ w % 2 ^ 7 = and-fixed 7 (w % 2 ^ 7) (omega arith) in
    let funct3 : bit_and (w / 2 ^ 12 % 2 ^ 3) 7 ≡ w / 2 ^ 12 % 2 ^ 3 = and-fixed 3 (w / 2 ^ 12 % 2 ^ 3) (omega arith) in
    let funct7 : bit_and (w / 2 ^ 25) 127 ≡ w / 2 ^ 25 = and-fixed 7 (w / 2 ^ 25) (omega arith) in
    let funct6 = test-high 1 6 (w / 2 ^ 25) (v / 2 ^ 25) (shr_below w 7 25 h) in
    let funct5 = test-high 2 5 (w / 2 ^ 25) (v / 2 ^ 25) (shr_below w 7 25 h) in
    let rs2 = test-high 5 5 (w / 2 ^ 15 % 2 ^ 10) (v / 2 ^ 15 % 2 ^ 10) (omega arith) in
    elim form as (λ f. has_fields f ≡ true → (bit_and w (mask_of f) == v) ≡ ((w % 2 ^ 7 == v % 2 ^ 7) && fits_fields f v (w / 2 ^ 12 % 2 ^ 3) (w / 2 ^ 25) (w / 2 ^ 15 % 2 ^ 10))) [
      | R ↦ λ _. rw test-fields (simp (opcode, funct3, funct7, test-free))
      | I ↦ λ _. rw test-fields (simp (opcode, funct3, test-free))
      | H ↦ λ _. rw test-fields (simp (opcode, funct3, funct6, test-free))
      | K ↦ λ _. rw test-fields (simp (opcode, funct3, funct7, test-free))
      | S ↦ λ _. rw test-fields (simp (opcode, funct3, test-free))
      | B ↦ λ _. rw test-fields (simp (opcode, funct3, test-free))
      | U ↦ λ _. rw test-fields (simp (opcode, test-free))
      | J ↦ λ _. rw test-fields (simp (opcode, test-free))
      | E ↦ λ none. (cc)
      | L ↦ λ _. rw test-fields (simp (opcode, funct3, rs2, funct5, test-free))
      | A ↦ λ _. rw test-fields (simp (opcode, funct3, funct5, test-free))
    ] p

-- a row whose mask holds the whole opcode matches no word of another opcode
other-opcode : (r : Row) (w : ℕ) → (r.mask % 2 ^ 7 == 127) ≡ true → (r.want % 2 ^ 7 == w % 2 ^ 7) ≡ false → matches r w ≡ false
other-opcode r w whole other =
    let mask : r.mask % 2 ^ 7 ≡ 127 = eqb-true _ _ whole in
    let opcode : bit_and (w % 2 ^ 7) 127 ≡ w % 2 ^ 7 = and-fixed 7 (w % 2 ^ 7) (omega arith) in
    rw (test-parts 7 w r.mask r.want, mask, opcode) (grind (arith, nat_tests))

-- a row that does not pass the test may be left out
find-kept : (test : Row → Bool) (r : Row) (rows kept : List Row) (keep : Bool) → (keep ≡ false → test r ≡ false)
    → find test rows ≡ find test kept → find test (r ∷ rows) ≡ find test (cond keep (r ∷ kept) kept)
find-kept test r rows kept true out rest = ap (λ o. cond (test r) (Some r) o) rest
find-kept test r rows kept false out rest = rw (out refl) rest

-- so only rows of the word's opcode can fit
pub find-rows_of : (w : ℕ) (rows : List Row) → list_all (λ r. r.mask % 2 ^ 7 == 127) rows ≡ true
    → find (λ r. matches r w) rows ≡ find (λ r. matches r w) (rows_of (w % 2 ^ 7) rows)
find-rows_of w [] h = refl
find-rows_of w (r ∷ rows) h =
    let whole = and_parts (r.mask % 2 ^ 7 == 127) (list_all (λ s. s.mask % 2 ^ 7 == 127) rows) h in
    find-kept (λ s. matches s w) r rows (rows_of (w % 2 ^ 7) rows) (r.want % 2 ^ 7 == w % 2 ^ 7) (other-opcode r w whole.0) (find-rows_of w rows whole.1)

-- a row with fields, of this opcode
abbrev pub is_plain : ℕ → Row → Bool
is_plain opcode r = has_fields r.form && ((r.mask == mask_of r.form) && (opcode == r.want % 2 ^ 7))

-- among such rows the two fields tell which one matches
pub find-fields : (w : ℕ) (rows : List Row) → w < 2 ^ 32 → list_all (is_plain (w % 2 ^ 7)) rows ≡ true
    → option_map (λ r. r.op) (find (λ r. matches r w) rows) ≡ pick rows (w / 2 ^ 12 % 2 ^ 3) (w / 2 ^ 25) (w / 2 ^ 15 % 2 ^ 10)
find-fields w [] b h = refl
find-fields w (r ∷ rows) b h =
    let plain = and_parts (is_plain (w % 2 ^ 7) r) (list_all (is_plain (w % 2 ^ 7)) rows) h in
    let parts = and_parts (has_fields r.form) ((r.mask == mask_of r.form) && (w % 2 ^ 7 == r.want % 2 ^ 7)) plain.0 in
    let same = and_parts (r.mask == mask_of r.form) (w % 2 ^ 7 == r.want % 2 ^ 7) parts.1 in
    let mask : r.mask ≡ mask_of r.form = eqb-true _ _ same.0 in
    let test : matches r w ≡ fits_fields r.form r.want (w / 2 ^ 12 % 2 ^ 3) (w / 2 ^ 25) (w / 2 ^ 15 % 2 ^ 10) = rw (mask, matches-form r.form w r.want b parts.0, same.1) in
    let rest = find-fields w rows b plain.1 in
    rw test (elim (fits_fields r.form r.want (w / 2 ^ 12 % 2 ^ 3) (w / 2 ^ 25) (w / 2 ^ 15 % 2 ^ 10))
    as (λ t. option_map (λ s. s.op) (cond t (Some r) (find (λ s. matches s w) rows))
    ≡ option_map (λ s. s.op) (cond t (Some r) (find (λ s. fits_fields s.form s.want (w / 2 ^ 12 % 2 ^ 3) (w / 2 ^ 25) (w / 2 ^ 15 % 2 ^ 10)) rows)))
    [ true ↦ refl | false ↦ rest ])

-- the row of a word is among the rows of its opcode
pub row-rows_of : (w opcode : ℕ) → bit_and w 127 ≡ opcode → row_for w ≡ find (λ r. matches r w) (rows_of opcode table)
unfolding table
row-rows_of w opcode e = let same : opcode ≡ w % 2 ^ 7 = sym e ∙ and_mask w 7 in rw same (find-rows_of w table refl)

-- the operation of a word of an opcode whose rows all have fields
pub by_fields : (w opcode : ℕ) → w < 2 ^ 32 → bit_and w 127 ≡ opcode → list_all (is_plain opcode) (rows_of opcode table) ≡ true
    → pick (rows_of opcode table) (bit_and (w / 2 ^ 12) 7) (w / 2 ^ 25) (bit_and (w / 2 ^ 15) 1023) ≡ option_map (λ r. r.op) (row_for w)
by_fields w opcode b e plain =
    let same : opcode ≡ w % 2 ^ 7 = sym e ∙ and_mask w 7 in
    let fields = find-fields w (rows_of (w % 2 ^ 7) table) b (rw (← same) plain) in
    rw (row-rows_of w opcode e, and_mask (w / 2 ^ 12) 3, and_mask (w / 2 ^ 15) 10, same) (sym fields)

-- ---- opcode and funct3 as one number

-- an operation that is what was picked
pub told : (found x : Option Op) → found ≡ x → IfSome found (λ op. x ≡ Some op)
told None x is = tt
told (Some op) x is = sym is

pub word-opcode : (w key : ℕ) → w % 4 ≡ 3 → 8 * (w / 4 % 32) + w / 4096 % 8 ≡ key → bit_and w 127 ≡ 4 * (key / 8) + 3
word-opcode w key low is = and_mask w 7 ∙ omega (arith, low, is)

pub picked : (key literal word registers : ℕ) (found : Option Op) → key ≡ literal → found ≡ found_at literal word registers
    → IfSome found (λ op. found_at key word registers ≡ Some op)
picked key literal word registers found is there =
    subst (λ k. IfSome found (λ op. found_at k word registers ≡ Some op)) (sym is) (told found (found_at literal word registers) there)

-- a row that has no fields is one of that opcode
abbrev has_fields_but : Row → Bool
has_fields_but r = (r.want % 2 ^ 7 == 115) || (has_fields r.form && (r.mask == mask_of r.form))

or-other : (a b : Bool) → (a || b) ≡ true → a ≡ false → b ≡ true
or-other a b either no_a = let both : (false || b) ≡ true = ap (λ t. t || b) (sym no_a) ∙ either in both

-- so those of other opcodes have fields
all_plain : (opcode : ℕ) (rows : List Row) → (opcode == 115) ≡ false → list_all has_fields_but rows ≡ true → list_all (is_plain opcode) (rows_of opcode rows) ≡ true
all_plain opcode [] other all = refl
all_plain opcode (r ∷ rows) other all =
    let parts = and_parts (has_fields_but r) (list_all has_fields_but rows) all in
    by_opcode (r.want % 2 ^ 7 == opcode) refl parts.0 (all_plain opcode rows other parts.1)
  where
    by_opcode : (k : Bool) → (r.want % 2 ^ 7 == opcode) ≡ k → has_fields_but r ≡ true → list_all (is_plain opcode) (rows_of opcode rows) ≡ true
        → list_all (is_plain opcode) (cond k (r ∷ rows_of opcode rows) (rows_of opcode rows)) ≡ true
    by_opcode true same has rest =
        let is : r.want % 2 ^ 7 ≡ opcode = eqb-true _ _ same in
        let plain = or-other (r.want % 2 ^ 7 == 115) _ has (ap (λ n. n == 115) is ∙ other) in
        rw (plain_row plain is) rest
      where
        plain_row : (has_fields r.form && (r.mask == mask_of r.form)) ≡ true → r.want % 2 ^ 7 ≡ opcode → is_plain opcode r ≡ true
        plain_row has is = grind (arith, nat_tests)
    by_opcode false same has rest = rest

-- the operation that is found by this number is the word's
pub by_key : (w key : ℕ) (found : Option Op) → w < 2 ^ 32 → w % 4 ≡ 3 → 8 * (w / 4 % 32) + w / 4096 % 8 ≡ key
    → ((registers : ℕ) → IfSome found (λ op. found_at key w registers ≡ Some op))
    → IfSome found (λ op. (key / 8 == 28) ≡ (key == 224))
    → IfSome found (λ op. option_map (λ r. r.op) (row_for w) ≡ Some op)
unfolding table
by_key w key None fits low is there fields = tt
by_key w key (Some op) fits low is there fields = by_test (key == 224) refl
  where
    at_test : (registers : ℕ) (test : Bool) → (key == 224) ≡ test
        → (if test then option_map (λ r. r.op) (find (λ r. matches r w) (rows_of 115 table)) else pick (rows_of (4 * (key / 8) + 3) table) (key % 8) (w / 2 ^ 25) registers) ≡ Some op
    at_test registers test is = ap (λ t. if t then option_map (λ r. r.op) (find (λ r. matches r w) (rows_of 115 table)) else pick (rows_of (4 * (key / 8) + 3) table) (key % 8) (w / 2 ^ 25) registers) (sym is) ∙ there registers

    by_test : (test : Bool) → (key == 224) ≡ test → option_map (λ r. r.op) (row_for w) ≡ Some op
    by_test true system = ap (option_map (λ r. r.op)) (row-rows_of w 115 (word-opcode w 224 low (is ∙ eqb-true _ _ system))) ∙ at_test 0 true system
    by_test false plain =
        let one : (key / 8 == 28) ≡ false = fields ∙ plain in
        let other : (4 * (key / 8) + 3 == 115) ≡ false = (grind (arith, nat_tests)) in
        let opcode = word-opcode w key low is in
        let funct3 : bit_and (w / 2 ^ 12) 7 ≡ key % 8 = and_mask (w / 2 ^ 12) 3 ∙ omega (arith, is) in
        sym (by_fields w (4 * (key / 8) + 3) fits opcode (all_plain (4 * (key / 8) + 3) table other refl))
        ∙ ap (λ f. pick (rows_of (4 * (key / 8) + 3) table) f (w / 2 ^ 25) (bit_and (w / 2 ^ 15) 1023)) funct3
        ∙ at_test (bit_and (w / 2 ^ 15) 1023) false plain
