-- Lists by how many elements they have.
use Rattle.std.proofs.Common.{◌≡◌, ℕ, ◌+◌, ◌<◌, suc, true, ltb, List, [], ◌∷◌, ◌++◌, length, map, refl, ap, arith, length-append}
use Rattle.std.proofs.lemmas.Bool.Decides.{Decides-ltb}

pub below : (a b : ℕ) → a < b → ltb a b ≡ true
below a b h = (Decides-ltb a b).1 h

pub is_below : (a b : ℕ) → ltb a b ≡ true → a < b
is_below a b h = (Decides-ltb a b).0 h

pub grown : {X : Type 0} (xs : List X) (x : X) → length (xs ++ x ∷ []) ≡ length xs + 1
grown xs x = length-append xs (x ∷ [])

pub none_of : {X : Type 0} (xs : List X) → length xs ≡ 0 → xs ≡ []
none_of [] e = refl
none_of (x ∷ xs) e = absurd (omega arith)

pub mapped : {X Y : Type 0} (make : X → Y) (xs : List X) → length (map make xs) ≡ length xs
mapped make [] = refl
mapped make (x ∷ xs) = ap suc (mapped make xs)
