-- How the values of fields are written, and which values have a text.
use Rattle.std.specs.Prelude.{ℕ, ◌^◌, ◌<◌, List, [], ◌∷◌, ◌++◌, length}
use Rattle.std.specs.List.{flat_map}
use Rattle.std.specs.Int.{Width, w32, to_le_bytes}

-- a little-endian number
unfoldable pub number_text : Width → ℕ → List ℕ
number_text w n = to_le_bytes w n

-- a length, and that many bytes
abbrev pub blob_text : Width → List ℕ → List ℕ
blob_text w xs = number_text w (length xs) ++ xs

-- a count of 4 bytes, and that many items
abbrev pub list_text : {A : Type 0} → (A → List ℕ) → List A → List ℕ
list_text item xs = number_text w32 (length xs) ++ flat_map item xs

-- each item fits, given the preceding one
abbrev pub InTurn : {A S : Type 0} → (S → A → Type 0) → (A → S) → S → List A → Type 0
InTurn Fits next s [] = Unit {0}
InTurn Fits next s (x ∷ xs) = Fits s x × InTurn Fits next (next x) xs

-- each item fits by itself
abbrev pub Alike : {A : Type 0} → (A → Type 0) → List A → Type 0
Alike Fits xs = InTurn (λ (before : Unit {0}) x. Fits x) (λ x. tt) tt xs

-- few enough items for a count, each of which fits, given the preceding one
abbrev pub Counted : {A S : Type 0} → (S → A → Type 0) → (A → S) → S → List A → Type 0
Counted Fits next s xs = (length xs < 2 ^ 32) × InTurn Fits next s xs

-- few enough bytes for a length
pub record IsBlob (limit : ℕ) (xs : List ℕ) : Type 0 where
  pub short : length xs < limit
