-- Reading from a reader and writing to a writer, as far as contracts know their bytes. `remaining` of std's `Read` is what a reader
-- has left, `contents` of `Write` is what a writer holds, and `delivered` of `Deliver` is what has reached its destination.
use Rattle.std.specs.Prelude.{◌≡◌, ℕ, ◌+◌, ◌≤◌, Option, None, Some, IfSome, List, length, ◌⊎◌}
use Rattle.std.specs.Io.KnownBytes.{Appends}
use Rattle.ddc_base.specs.declared.outside.Loaded.{Loaded}
use Rattle.ddc_base.specs.declared.outside.Loaded.TheVariants.{Absent}
use Rattle.ddc_base.specs.Outside.{loaded_of}

-- the result is all that the reader had left if that is within the limit, and otherwise that it is too long
abbrev pub GivesAll : {R : Type 0} → (R → Option (List ℕ)) → R → ℕ → Loaded → Type 0
GivesAll remaining reader limit given = IfSome (remaining reader) (λ left. given ≡ loaded_of limit (Some left))

-- there was no file, or one was opened and all of it returned
abbrev pub GivesFile : {R : Type 0} → (R → Option (List ℕ)) → ℕ → Loaded → Type 0
GivesFile {R} remaining limit given = (given ≡ Absent) ⊎ ((file : R) × GivesAll remaining file limit given)

-- a file was created, and all of a content appended to it
abbrev pub TakesAll : {W : Type 0} → (W → Option (List ℕ)) → List ℕ → Type 0
TakesAll {W} contents content = (before : W) × ((after : W) × Appends (contents before) (contents after) content)

-- of the known bytes that a reader has left, at most `most` were taken
abbrev pub TakesAtMost : Option (List ℕ) → Option (List ℕ) → ℕ → Type 0
TakesAtMost None new most = Unit {0}
TakesAtMost (Some old) None most = ⊥
TakesAtMost (Some old) (Some new) most = length old ≤ most + length new

-- all known bytes that a writer holds have reached their destination, if it is known which have
abbrev pub HasDelivered : Option (List ℕ) → Option (List ℕ) → Type 0
HasDelivered None delivered = Unit {0}
HasDelivered (Some held) None = Unit {0}
HasDelivered (Some held) (Some delivered) = delivered ≡ held
