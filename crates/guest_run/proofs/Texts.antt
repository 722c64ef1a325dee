-- Texts in a row, taken one at a time.
use Rattle.std.proofs.Common.{◌≡◌, ◌≤◌, ◌<◌, ℕ, zero, suc, ◌+◌, ◌-◌, ◌*◌, ◌/◌, List, [], ◌∷◌, ◌++◌, length, get_or, drop, refl, sym, ap, ◌∙◌, arith, false, true, Option, None, Some, is_some, w64, replicate, zero-add, lit≤, inl, inr, drop-cons, add-one, append_assoc, length-append}
use Rattle.std.specs.Prelude.{sum_by, nat_le, SomeIff}
use Rattle.std.specs.Int.{to_le_bytes}
use Rattle.std.proofs.lemmas.Bool.{cases_lt}
use Rattle.std.proofs.lemmas.Bool.Decides.{nat_tests}
use Rattle.ddc_base.specs.Limits.{most_texts}
use Rattle.paged_mem.proofs.Numbers.{take-to_le_bytes}
use Rattle.std.specs.List.{flat_map}
use Rattle.std.proofs.lemmas.Grind.{flat_map-append}
use Rattle.std.proofs.lemmas.List.Sums.{sum_by-cons}
use Rattle.paged_mem.specs.Memory.{bytes_of, zeros}
use Rattle.guest_run.specs.Inside.Bounds.{cost}
use Rattle.guest_run.specs.Stack.{addresses, zero_ended, gap, ended_texts, stack_bytes, stack_end, start_size}

-- the text at an index, and those after it
pub ended_texts-on : (texts : List (List ℕ)) (i : ℕ) (d : List ℕ) → i < length texts
    → ended_texts (drop i texts) ≡ (get_or texts i d ++ 0 ∷ []) ++ ended_texts (drop (i + 1) texts)
ended_texts-on texts i d lt = rw (add-one, drop-cons texts i d lt) refl

pub addresses-on : (at : ℕ) (texts : List (List ℕ)) (i : ℕ) (d : List ℕ) → i < length texts
    → addresses at (drop i texts) ≡ at ∷ addresses (at + (length (get_or texts i d) + 1)) (drop (i + 1) texts)
addresses-on at texts i d lt =
    let next : i + 1 ≡ suc i = omega arith in
    ap (addresses at) (drop-cons texts i d lt)
    ∙ ap (λ n. at ∷ addresses (at + (length (get_or texts i d) + 1)) (drop n texts)) (sym next)

pub costs-on : (texts : List (List ℕ)) (i : ℕ) (d : List ℕ) → i < length texts
    → sum_by cost (drop i texts) ≡ cost (get_or texts i d) + sum_by cost (drop (i + 1) texts)
costs-on texts i d lt = rw (add-one, drop-cons texts i d lt) (sum_by-cons cost (get_or texts i d) (drop (suc i) texts))

-- what texts cost is their bytes and a word for each
pub costs-are : (texts : List (List ℕ)) → sum_by cost texts ≡ length (ended_texts texts) + 8 * length texts
costs-are [] = refl
costs-are (text ∷ texts) =
    let more = sum_by-cons cost text texts in
    let rest = costs-are texts in
    let len = length-append (zero_ended text) (ended_texts texts) in
    let one = length-append text (0 ∷ []) in
    omega (arith, more, rest, len, one)

pub ended_texts-length_on : (texts : List (List ℕ)) (i : ℕ) (d : List ℕ) → i < length texts
    → length (ended_texts (drop i texts)) ≡ (length (get_or texts i d) + 1) + length (ended_texts (drop (i + 1) texts))
ended_texts-length_on texts i d lt =
    ap length (ended_texts-on texts i d lt) ∙ length-append (zero_ended (get_or texts i d)) (ended_texts (drop (i + 1) texts))
    ∙ ap (λ n. n + length (ended_texts (drop (i + 1) texts))) (length-append (get_or texts i d) (0 ∷ []))

-- a search for the cost within a bound
pub some_le : (o : Option ℕ) (a b v : ℕ) → SomeIff o (a ≤ b) v → is_some o ≡ nat_le a b
some_le None a b v above = grind (arith, nat_tests)
some_le (Some x) a b v within = let le : a ≤ b = within.0 in grind (arith, nat_tests)

pub fits-first : (args env : List (List ℕ)) → ¬ (sum_by cost args ≤ 131032) → false ≡ nat_le (start_size args env) most_texts
fits-first args env above =
    let a = costs-are args in
    grind (arith, nat_tests)

pub fits-second : (args env : List (List ℕ)) → sum_by cost args ≤ 131032
    → nat_le (sum_by cost env) (131032 - sum_by cost args) ≡ nat_le (start_size args env) most_texts
fits-second args env within =
    let a = costs-are args in
    let e = costs-are env in
    elim (cases_lt most_texts (start_size args env)) [
      | inl above ↦
          (let left : nat_le (sum_by cost env) (131032 - sum_by cost args) ≡ false = grind (arith, nat_tests) in
          let right : nat_le (start_size args env) most_texts ≡ false = grind (arith, nat_tests) in
          left ∙ sym right)
      | inr below ↦
          (let left : nat_le (sum_by cost env) (131032 - sum_by cost args) ≡ true = grind (arith, nat_tests) in
          let right : nat_le (start_size args env) most_texts ≡ true = grind (arith, nat_tests) in
          left ∙ sym right)
    ]

-- the eight bytes of a word
pub le_bytes-are : (value : ℕ) → to_le_bytes w64 value ≡ bytes_of 8 value
le_bytes-are value = take-to_le_bytes 8 value (lit≤ tt)

-- three words of 0 and more zeros
zeros-append : (m n : ℕ) → zeros (m + n) ≡ zeros m ++ zeros n
unfolding zeros
zeros-append zero n = ap (λ k. replicate k 0) (zero-add n)
zeros-append (suc m) n =
    let more : suc m + n ≡ suc (m + n) = omega arith in
    ap (λ k. replicate k 0) more ∙ ap (λ xs. 0 ∷ xs) (zeros-append m n)

zero_words : (n : ℕ) → zeros (24 + n) ≡ flat_map (bytes_of 8) (0 ∷ 0 ∷ 0 ∷ []) ++ zeros n
unfolding zeros bytes_of
zero_words n = zeros-append 24 n

-- what is appended in turn is the stack
pub assembled : (args env : List (List ℕ)) (a e : ℕ) (p₀ p₁ p₂ p₃ p₄ p₅ p₆ p₇ : List ℕ)
    → a ≡ length (ended_texts args) → e ≡ length (ended_texts env) → p₀ ≡ [] → p₁ ≡ p₀ ++ bytes_of 8 (length args)
    → p₂ ≡ p₁ ++ flat_map (bytes_of 8) (addresses (stack_end - a - e) args) → p₃ ≡ p₂ ++ bytes_of 8 0
    → p₄ ≡ p₃ ++ flat_map (bytes_of 8) (addresses (stack_end - a - e + a) env)
    → p₅ ≡ p₄ ++ zeros (24 + (stack_end - a - e - 8 * (5 + length args + length env) - (stack_end - a - e - 8 * (5 + length args + length env)) / 16 * 16))
    → p₆ ≡ p₅ ++ ended_texts args → p₇ ≡ p₆ ++ ended_texts env → p₇ ≡ stack_bytes args env
unfolding stack_bytes
assembled args env a e p₀ p₁ p₂ p₃ p₄ p₅ p₆ p₇ a-is e-is is₀ is₁ is₂ is₃ is₄ is₅ is₆ is₇ =
    rw (is₇, is₆, is₅, is₄, is₃, is₂, is₁, is₀, a-is, e-is, zero_words (gap args env)) (simp (append_assoc, flat_map-append))

-- one zero more
pub zeros-none : zeros 0 ≡ []
unfolding zeros
zeros-none = refl

zeros-one : zeros 1 ≡ 0 ∷ []
unfolding zeros
zeros-one = refl

pub zeros-more : (n : ℕ) → zeros (n + 1) ≡ zeros n ++ 0 ∷ []
zeros-more n = zeros-append n 1 ∙ ap (λ xs. zeros n ++ xs) zeros-one

pub ruleset zeros_rules = (zeros-none, zeros-more)
