-- The part of a line read so far, which the code splits in this way. To read the promises, this file is not needed.
use Rattle.std.specs.Prelude.{◌≡◌, ℕ, Option, List, [], ◌∷◌, ◌++◌, length, take, nat_le, nat_lt, if◌then◌else◌}
use Rattle.std.specs.Io.KnownBytes.{Consumes}
use Rattle.prompt.specs.declared.asking.Asked.{Asked}
use Rattle.prompt.specs.declared.asking.Asked.TheVariants.{Line, TooLong}
use Rattle.prompt.specs.Prompts.{line_size}

-- `count` bytes were consumed, none of them an LF; the first 256 are stored
pub record HasRead (old now : Option (List ℕ)) (line : List ℕ) (count : ℕ) : Type 0 where
  pub prefix : List ℕ
  pub taken : Consumes old now prefix
  pub size : length prefix ≡ count
  pub plain : line_size prefix ≡ length prefix
  pub kept : line ≡ take 256 prefix

-- the result for a line of `count` bytes
abbrev pub whole_line : List ℕ → ℕ → Asked
whole_line kept count = if nat_le count 256 then Line kept else TooLong

-- the stored bytes of a line after one more byte; `count` bytes preceded it
abbrev pub kept_with : List ℕ → ℕ → ℕ → List ℕ
kept_with line byte count = if nat_lt count 256 then line ++ byte ∷ [] else line
