-- Reading lines from a reader whose remaining bytes are known (`remaining` of std's `Read`).
use Rattle.std.specs.Prelude.{◌≡◌, ◌<◌, ℕ, Option, None, Some, List, [], ◌∷◌, length}
use Rattle.std.specs.Io.KnownBytes.{Consumes, IsAtEnd}
use Rattle.prompt.specs.declared.asking.Asked.{Asked}
use Rattle.prompt.specs.Prompts.{asked_of, unread_after, line_size}

-- the next byte was consumed, or the reader is at its end
abbrev pub TakesByte : Option (List ℕ) → Option (List ℕ) → Option ℕ → Type 0
TakesByte old new (Some byte) = Consumes old new (byte ∷ [])
TakesByte old new None = Consumes old new [] × IsAtEnd new

-- fewer than 65,536 bytes were consumed, none of them an LF: no whole line was consumed, unless the reader is at its end
abbrev pub TakesNoLine : Option (List ℕ) → Option (List ℕ) → Type 0
TakesNoLine old new = (prefix : List ℕ) × Consumes old new prefix × (line_size prefix ≡ length prefix) × (length prefix < 65_536)

-- the result is the first line of the remaining bytes, and that line was consumed
abbrev pub GivesLine : Option (List ℕ) → Option (List ℕ) → Asked → Type 0
GivesLine None new asked = Unit {0}
GivesLine (Some unread) None asked = ⊥
GivesLine (Some unread) (Some rest) asked = (asked ≡ asked_of unread) × (rest ≡ unread_after unread)
