-- Lists in the order of rising numbers, from a number on.
use Rattle.std.specs.Prelude.{◌≡◌, ◌≤◌, ℕ, ◌+◌, Option, None, Some, List, [], ◌∷◌, min}
use Rattle.save_format.specs.ByteFields.Spelling.{InTurn}
use Rattle.save_format.specs.PatchText.Numbered.{item_numbered}

-- numbers from `least` on, each greater than the preceding one
abbrev pub Rises : {A : Type 0} → (A → ℕ) → ℕ → List A → Type 0
Rises of least xs = InTurn (λ least x. least ≤ of x) (λ x. of x + 1) least xs

-- two lists have the same items from a number on
abbrev pub SameFrom : {A : Type 0} → (A → ℕ) → ℕ → List A → List A → Type 0
SameFrom of number xs ys = (k : ℕ) → number ≤ k → item_numbered of ys k ≡ item_numbered of xs k

-- the number of the first item
abbrev pub IsFirst : {T : Type 0} → (T → ℕ) → List T → Option ℕ → Type 0
IsFirst number [] result = result ≡ None
IsFirst number (x ∷ xs) result = result ≡ Some (number x)

abbrev pub lowest_of : Option ℕ → Option ℕ → Option ℕ
lowest_of None second = second
lowest_of (Some first) None = Some first
lowest_of (Some first) (Some second) = Some (min first second)

-- the lower of two first numbers
abbrev pub IsLowest : Option ℕ → Option ℕ → Option ℕ → Type 0
IsLowest first second result = result ≡ lowest_of first second
