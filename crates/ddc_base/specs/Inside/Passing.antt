-- Bytes of a reader that are skipped.
use Rattle.std.specs.Prelude.{◌≡◌, ℕ, ◌+◌, Option, None, Some, List, length}

-- known bytes lose as many at their start
abbrev pub PassesOver : Option (List ℕ) → Option (List ℕ) → ℕ → Type 0
PassesOver None new count = Unit {0}
PassesOver (Some old) None count = ⊥
PassesOver (Some old) (Some new) count = length old ≡ count + length new
