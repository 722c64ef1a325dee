-- The names of states: names of files, and those that were judged in turn.
use Rattle.std.proofs.Common.{◌≡◌, ℕ, zero, suc, ◌+◌, ◌%◌, ◌^◌, ◌<◌, ◌≤◌, ◌==◌, ◌&&◌, ◌||◌, not, Bool, true, false, IsTrue, Result, Ok, Err, List, [], ◌∷◌, ◌++◌, length, decimal, nat_le, length-append, refl, sym, ap, subst, ◌∙◌, arith}
use Rattle.std.specs.List.{list_any}
use Rattle.std.proofs.lemmas.Bool.{and_from, and_parts, le-leb, leb-true}
use Rattle.std.proofs.lemmas.Bool.Decides.{nat_tests}
use Rattle.std.proofs.lemmas.Fmt.{decimal_by_steps, length-decimal-le}
use Rattle.std.proofs.lemmas.List.Folds.{list_any-append}
use Rattle.ddc_base.specs.Outside.{ShelfState}
use Rattle.ddc_base.specs.Limits.{most_states}
use Rattle.command_plan.specs.declared.stop.Stop.{Stop}
use Rattle.command_plan.specs.Plan.{Plan}
use Rattle.command_plan.specs.Steps.{Obtains}
use Rattle.command_plan.specs.Words.{has_no_zero_byte, is_file_word}
use Rattle.command_plan.proofs.Obtaining.{and_then, leads, stops_before}
use Rattle.stage_commands.specs.Names.{each_name, is_prefix, piece_name}

abbrev any_zero : List ℕ → Bool
any_zero word = list_any (λ byte. byte == 0) word

none_in_both : (xs ys : List ℕ) → any_zero xs ≡ false → any_zero ys ≡ false → any_zero (xs ++ ys) ≡ false
none_in_both xs ys first second = list_any-append (λ byte. byte == 0) xs ys ∙ (λ i. first i || second i)

no_zero : (n : ℕ) → n < 10 → any_zero ((48 + n) ∷ []) ≡ false
no_zero n few = grind (arith, nat_tests)

digits_not_zero : (n : ℕ) → n < 2 ^ 64 → any_zero (decimal n) ≡ false
digits_not_zero = decimal_by_steps (λ n ds. any_zero ds ≡ false) no_zero
    (λ n ds ten before. none_in_both ds ((48 + n % 10) ∷ []) before (no_zero (n % 10) (omega arith)))

pub names_file : (prefix : List ℕ) (number : ℕ) → IsTrue (is_prefix prefix) → number < most_states → IsTrue (is_file_word (piece_name prefix number))
names_file prefix number is few =
    let parts = and_parts (nat_le 1 (length prefix) && nat_le (length prefix) 250) (has_no_zero_byte prefix) is in
    let sizes = and_parts (nat_le 1 (length prefix)) (nat_le (length prefix) 250) parts.0 in
    let some : 1 ≤ length prefix = leb-true 1 (length prefix) sizes.0 in
    let short : length prefix ≤ 250 = leb-true (length prefix) 250 sizes.1 in
    let digits : length (decimal number) ≤ 3 = length-decimal-le 3 number (omega arith) few (omega (arith, few)) in
    let whole : length (prefix ++ 46 ∷ decimal number) ≡ length prefix + length (46 ∷ decimal number) = length-append prefix (46 ∷ decimal number) in
    let none : any_zero (piece_name prefix number) ≡ false = none_in_both prefix (46 ∷ decimal number) (clear (any_zero prefix) parts.1) (digits_not_zero number (omega (arith, few))) in
    and_from (nat_le 1 (length (piece_name prefix number)) && nat_le (length (piece_name prefix number)) 255) (has_no_zero_byte (piece_name prefix number))
    (and_from (nat_le 1 (length (piece_name prefix number))) (nat_le (length (piece_name prefix number)) 255)
    (le-leb 1 (length (piece_name prefix number)) (omega (arith, some, whole))) (le-leb (length (piece_name prefix number)) 255 (omega (arith, short, digits, whole)))) (ap not none) where
      clear : (b : Bool) → not b ≡ true → b ≡ false
      clear true is = cc
      clear false is = refl

module _ (judge : List ℕ → (Unit {0} → Plan) → Plan) (prefix : List ℕ) (shelf : ShelfState) where
  pub none_judged : Obtains (each_name judge prefix 0) shelf shelf (Ok tt)
  unfolding each_name
  none_judged = leads (each_name judge prefix 0) shelf tt (λ next. refl)

  -- one name more
  pub one_judged : (count : ℕ) (result : Result (Unit {0}) Stop) → Obtains (each_name judge prefix count) shelf shelf (Ok tt)
      → Obtains (judge (piece_name prefix count)) shelf shelf result → Obtains (each_name judge prefix (suc count)) shelf shelf result
  unfolding each_name
  one_judged count result before here = and_then {first = each_name judge prefix count} {second = λ _. judge (piece_name prefix count)} before here

  -- a name that ends the command, whatever follows it
  pub ends_at_name : (count more most : ℕ) (ending : Stop) → most ≡ count + more → Obtains (each_name judge prefix count) shelf shelf (Err ending)
      → Obtains (each_name judge prefix most) shelf shelf (Err ending)
  unfolding each_name
  ends_at_name count zero most ending is o =
      let same : count ≡ most = omega (arith, is) in
      subst (λ n. Obtains (each_name judge prefix n) shelf shelf (Err ending)) same o
  ends_at_name count (suc more) most ending is o =
      let one : most ≡ suc (count + more) = omega (arith, is) in
      subst (λ n. Obtains (each_name judge prefix n) shelf shelf (Err ending)) (sym one)
      (stops_before {first = each_name judge prefix (count + more)} {second = λ _. judge (piece_name prefix (count + more))} (ends_at_name count more (count + more) ending refl o))
