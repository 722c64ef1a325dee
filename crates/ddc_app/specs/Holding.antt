-- Files that hold what a command needs. docs/reference/command-line.md says the same for people.
use Rattle.std.specs.Prelude.{◌≡◌, ℕ, ◌-◌, List, [], ◌∷◌, length, min}
use Rattle.ddc_base.specs.declared.outside.Loaded.TheVariants.{Bytes}
use Rattle.ddc_base.specs.Outside.{NamedFiles, loaded}

-- these names have these contents, each of at most `most` bytes and all together of at most `budget`
abbrev pub AreHeld : ℕ → ℕ → NamedFiles → List (List ℕ) → List (List ℕ) → Type 0
AreHeld most budget files [] [] = Unit {0}
AreHeld most budget files (name ∷ names) (content ∷ contents) =
    (loaded files name (min most budget) ≡ Bytes content) × AreHeld most (budget - length content) files names contents
AreHeld most budget files _ _ = ⊥
