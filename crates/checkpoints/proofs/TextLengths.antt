-- How long texts can be.
use Rattle.std.proofs.Common.{ℕ, ◌+◌, ◌*◌, ◌≤◌, List, [], ◌∷◌, ◌++◌, length, All, arith, length-append}
use Rattle.std.specs.Prelude.{sum_by}
use Rattle.std.specs.List.{flat_map}
use Rattle.std.specs.Int.{w16, w32, w64}
use Rattle.std.proofs.lemmas.List.Concat.{length-flat_map}
use Rattle.std.proofs.lemmas.List.Elements.{All-head, All-tail}
use Rattle.std.proofs.lemmas.List.Sums.{sum_by-cons, sum_by-le}
use Rattle.save_format.specs.ByteFields.Spelling.{list_text, number_text}

-- a text of at most so many bytes
pub record HasAtMost (most : ℕ) (text : List ℕ) : Type 0 where
  pub long : length text ≤ most

pub within : {m n : ℕ} {text : List ℕ} → HasAtMost m text → m ≤ n → HasAtMost n text
within is le = let long = is.long in record { long = omega arith }

pub joined : {m n : ℕ} {a b : List ℕ} → HasAtMost m a → HasAtMost n b → HasAtMost (m + n) (a ++ b)
joined {m} {n} {a} {b} first second = let p = first.long in let q = second.long in record { long = omega (arith, length-append a b) }

pub after_byte : {m byte : ℕ} {text : List ℕ} → HasAtMost m text → HasAtMost (1 + m) (byte ∷ text)
after_byte is = let long = is.long in record { long = omega arith }

pub number16 : (n : ℕ) → HasAtMost 2 (number_text w16 n)
unfolding number_text
number16 n = record { long = omega arith }

pub number32 : (n : ℕ) → HasAtMost 4 (number_text w32 n)
unfolding number_text
number32 n = record { long = omega arith }

pub number64 : (n : ℕ) → HasAtMost 8 (number_text w64 n)
unfolding number_text
number64 n = record { long = omega arith }

pub itself : (text : List ℕ) → HasAtMost (length text) text
itself text = record { long = omega arith }

-- texts of items, each of at most so many bytes apart from its own part
pub items : {A : Type 0} (item : A → List ℕ) (own : A → ℕ) (most : ℕ) (xs : List A) → All (λ x. HasAtMost (most + own x) (item x)) xs → HasAtMost (length xs * most + sum_by own xs) (flat_map item xs)
items item own most [] all = record { long = omega arith }
items item own most (x ∷ xs) all =
    let here = (All-head (λ x. HasAtMost (most + own x) (item x)) x xs all).long in
    let rest = (items item own most xs (All-tail (λ x. HasAtMost (most + own x) (item x)) x xs all)).long in
    record { long = omega (arith, length-append (item x) (flat_map item xs), sum_by-cons own x xs) }

-- the same with nothing apart from it
pub alike : {A : Type 0} (item : A → List ℕ) (most : ℕ) (xs : List A) → All (λ x. HasAtMost most (item x)) xs → HasAtMost (length xs * most) (flat_map item xs)
alike item most xs all = record { long = rw length-flat_map (sum_by-le (λ x. length (item x)) most xs (λ k d less. (all k d less).long)) }

pub counted : {A : Type 0} {m : ℕ} (item : A → List ℕ) (xs : List A) → HasAtMost m (flat_map item xs) → HasAtMost (4 + m) (list_text item xs)
counted item xs is = joined (number32 (length xs)) is
