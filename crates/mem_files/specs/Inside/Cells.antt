-- A list of cells, some of which hold a value, as a map.
use Rattle.std.specs.Prelude.{◌≡◌, ◌<◌, ◌≤◌, slice_index_or, ℕ, suc, Option, Some, None, List, [], ◌∷◌, map}
use Rattle.std.specs.Ordering.{nat_cmp}
use Rattle.std.specs.FinMap.{FinMap, from_entries}

-- the full cells of a list with their numbers, from n on
abbrev pub numbered : {X : Type 0} → ℕ → List (Option X) → List (ℕ × X)
numbered n [] = []
numbered n (None ∷ cells) = numbered (suc n) cells
numbered n (Some x ∷ cells) = (n, x) ∷ numbered (suc n) cells

-- the map from the numbers of the full cells to what they hold
abbrev pub map_of : {X : Type 0} → List (Option X) → FinMap nat_cmp X
map_of cells = from_entries (numbered 0 cells)

-- entries with their keys as they are seen
abbrev pub keyed : {K X : Type 0} → (K → List ℕ) → List (K × X) → List (List ℕ × X)
keyed view es = map (λ e. (view e.0, e.1)) es

-- cells that differ only in empty ones at the end
abbrev pub SameCells : {X : Type 0} → List (Option X) → List (Option X) → Type 0
SameCells old new = (at : ℕ) → slice_index_or new at None ≡ slice_index_or old at None

-- the cells from `from` up to but not including `to` are empty
abbrev pub AreEmpty : {X : Type 0} → List (Option X) → ℕ → ℕ → Type 0
AreEmpty cells from to = (at : ℕ) → from ≤ at → at < to → slice_index_or cells at None ≡ None

-- the first cell from an index on that holds a value
abbrev pub IsFirstFull : {X : Type 0} → List (Option X) → ℕ → ℕ → X → Type 0
IsFirstFull cells from at value = (from ≤ at) × (slice_index_or cells at None ≡ Some value) × AreEmpty cells from at
