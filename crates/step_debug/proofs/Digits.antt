-- Digits that are read one by one.
use Rattle.std.proofs.Common.{◌≡◌, ◌+◌, ◌*◌, ◌<◌, ◌^◌, ◌≤◌, ℕ, zero, suc, true, false, cond, nat_lt, Option, Some, None, option_and_then, List, [], ◌∷◌, length, drop, get_or, refl, ap, sym, ◌∙◌, arith}
use Rattle.std.proofs.lemmas.List.{drop_all}
use Rattle.step_debug.specs.Lines.{digit_of, number_from, with_digit}

at-digit : (text : List ℕ) (i byte : ℕ) → i < length text → byte ≡ get_or text i 0 → drop i text ≡ byte ∷ drop (i + 1) text
at-digit [] i byte lt is = absurd (omega (arith, lt))
at-digit (first ∷ text) zero byte lt is = ap (λ b. b ∷ text) (sym is)
at-digit (first ∷ text) (suc i) byte lt is =
    let later : drop i text ≡ byte ∷ drop (i + 1) text = at-digit text i byte (omega (arith, lt)) is in
    let same : suc i + 1 ≡ suc (i + 1) = omega arith in
    later ∙ ap (λ n. byte ∷ drop n (first ∷ text)) (sym same)

-- what follows a digit follows the number that it makes
split : (value : ℕ) (next : ℕ → Option ℕ) (digit : Option ℕ) → with_digit value next digit ≡ option_and_then next (with_digit value (λ n. Some n) digit)
split value next None = refl
split value next (Some digit) =
    elim (nat_lt (value * 16 + digit) (2 ^ 64)) as (λ b. cond b (next (value * 16 + digit)) None ≡ option_and_then next (cond b (Some (value * 16 + digit)) None)) [
      | true ↦ refl
      | false ↦ refl
    ]

module _ (text : List ℕ) (value i byte : ℕ) (lt : i < length text) (is : byte ≡ get_or text i 0) where
  -- the rest after a digit
  pub takes : (number : ℕ) → Some number ≡ with_digit value (λ n. Some n) (digit_of byte) → number_from value (drop i text) ≡ number_from number (drop (i + 1) text)
  takes number made =
      ap (number_from value) (at-digit text i byte lt is)
      ∙ split value (λ n. number_from n (drop (i + 1) text)) (digit_of byte)
      ∙ ap (option_and_then (λ n. number_from n (drop (i + 1) text))) (sym made)

  -- what is no digit, or one too many
  pub stops : None ≡ with_digit value (λ n. Some n) (digit_of byte) → number_from value (drop i text) ≡ None
  stops none =
      ap (number_from value) (at-digit text i byte lt is)
      ∙ split value (λ n. number_from n (drop (i + 1) text)) (digit_of byte)
      ∙ ap (option_and_then (λ n. number_from n (drop (i + 1) text))) (sym none)

-- all digits were read
pub ends : (text : List ℕ) (value i : ℕ) → length text ≤ i → number_from value (drop i text) ≡ Some value
ends text value i le = ap (number_from value) (drop_all i text le)

pub ruleset digits = (takes, stops, ends)
