-- The names of two states name two files.
use Rattle.std.proofs.Common.{◌≡◌, ◌≢◌, ℕ, ◌+◌, ◌%◌, ◌<◌, ◌^◌, ◌==◌, ◌&&◌, not, Bool, true, false, cond, IsTrue, List, [], ◌∷◌, ◌++◌, decimal, refl, sym, ap, ◌∙◌, arith}
use Rattle.std.specs.Prelude.{bytes_eq}
use Rattle.std.proofs.lemmas.Bool.{and_from}
use Rattle.std.proofs.lemmas.Bool.Decides.{nat_tests}
use Rattle.std.proofs.lemmas.Fmt.{decimal_by_steps}
use Rattle.std.proofs.lemmas.Slice.Eq.{bytes_eq-Decides}
use Rattle.ddc_base.specs.Limits.{most_states}
use Rattle.mem_files.specs.Names.{stripped}
use Rattle.command_plan.specs.Words.{are_two_files, is_file_word, is_one_file}
use Rattle.stage_commands.specs.Names.{is_prefix, piece_name}
use Rattle.stage_commands.proofs.CutWalk.{two_names}
use Rattle.stage_commands.proofs.PieceNames.{names_file}

-- the first digit is no slash
pub record IsNumber (ds : List ℕ) : Type 0 where
  first : ℕ
  rest : List ℕ
  is : ds ≡ first ∷ rest
  no_slash : (first == 47) ≡ false

not_slash : (n : ℕ) → (48 + n == 47) ≡ false
not_slash n = grind (arith, nat_tests)

is_number : (n : ℕ) → n < 2 ^ 64 → IsNumber (decimal n)
is_number = decimal_by_steps (λ n ds. IsNumber ds) (λ n few. record { first = 48 + n; rest = []; is = refl; no_slash = not_slash n })
    (λ n ds ten before. record { first = before.first; rest = before.rest ++ (48 + n % 10) ∷ []; is = ap (λ (xs : List ℕ). xs ++ (48 + n % 10) ∷ []) before.is; no_slash = before.no_slash })

-- ---- leading `./` are taken off the prefix alone

pub record Strips (prefix : List ℕ) : Type 0 where
  leading : List ℕ
  strips : (ds : List ℕ) → IsNumber ds → stripped (prefix ++ 46 ∷ ds) ≡ leading ++ 46 ∷ ds

never : (b : Bool) → (b && false) ≡ false
never true = refl
never false = refl

strips_of : (prefix : List ℕ) → Strips prefix
strips_of [] = record {
  leading = [];
  strips = λ ds number.
      ap (λ (xs : List ℕ). stripped (46 ∷ xs)) number.is
      ∙ ap (λ b. cond b (stripped number.rest) (46 ∷ (number.first ∷ number.rest))) number.no_slash
      ∙ ap (λ (xs : List ℕ). 46 ∷ xs) (sym number.is);
}
strips_of (a ∷ []) = record {
  leading = a ∷ [];
  strips = λ ds number. ap (λ b. cond b (stripped ds) (a ∷ (46 ∷ ds))) (never (a == 46));
}
strips_of (a ∷ (b ∷ rest)) = by (a == 46 && b == 47) refl (strips_of rest) where
  by : (t : Bool) → (a == 46 && b == 47) ≡ t → Strips rest → Strips (a ∷ (b ∷ rest))
  by true is s = record {
    leading = s.leading;
    strips = λ ds number. ap (λ t. cond t (stripped (rest ++ 46 ∷ ds)) (a ∷ (b ∷ (rest ++ 46 ∷ ds)))) is ∙ s.strips ds number;
  }
  by false is s = record {
    leading = a ∷ (b ∷ rest);
    strips = λ ds number. ap (λ t. cond t (stripped (rest ++ 46 ∷ ds)) (a ∷ (b ∷ (rest ++ 46 ∷ ds)))) is;
  }

strips_piece : (prefix : List ℕ) (s : Strips prefix) (number : ℕ) → number < 2 ^ 64 → stripped (piece_name prefix number) ≡ piece_name s.leading number
strips_piece prefix s number small = s.strips (decimal number) (is_number number small)

not_one : (prefix : List ℕ) (a b : ℕ) → a < 2 ^ 64 → b < 2 ^ 64 → a ≢ b → is_one_file (piece_name prefix a) (piece_name prefix b) ≡ false
unfolding is_one_file
not_one prefix a b small few differ = by (is_one_file (piece_name prefix a) (piece_name prefix b)) refl where
  s : Strips prefix
  s = strips_of prefix

  by : (t : Bool) → bytes_eq (stripped (piece_name prefix a)) (stripped (piece_name prefix b)) ≡ t → t ≡ false
  by false is = refl
  by true is =
      absurd (two_names s.leading a b small few differ
      (sym (strips_piece prefix s a small) ∙ (bytes_eq-Decides (stripped (piece_name prefix a)) (stripped (piece_name prefix b))).0 is ∙ strips_piece prefix s b few))

pub two_pieces : (prefix : List ℕ) (number : ℕ) → IsTrue (is_prefix prefix) → number + 1 < most_states → are_two_files (piece_name prefix number) (piece_name prefix (number + 1)) ≡ true
two_pieces prefix number is few =
    and_from (is_file_word (piece_name prefix number) && is_file_word (piece_name prefix (number + 1))) (not (is_one_file (piece_name prefix number) (piece_name prefix (number + 1))))
    (and_from (is_file_word (piece_name prefix number)) (is_file_word (piece_name prefix (number + 1))) (names_file prefix number is (omega (arith, few))) (names_file prefix (number + 1) is few))
    (ap not (not_one prefix number (number + 1) (omega (arith, few)) (omega (arith, few)) (λ same. omega (arith, same))))
