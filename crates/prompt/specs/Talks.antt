-- A session as the lines read and the segments written: each reply is a segment of its own. docs/reference/step.md is
-- the page for readers.
use Rattle.std.specs.Prelude.{ℕ, zero, suc, Option, None, Some, List, [], ◌∷◌}
use Rattle.prompt.specs.declared.asking.Asked.{Asked}
use Rattle.prompt.specs.declared.asking.Asked.TheVariants.{Line, TooLong, End}
use Rattle.prompt.specs.Prompts.{asked_of, unread_after}

-- a line is read, after which the input has these bytes left; or a segment is written
pub data Exchange : Type 0 where
  hears : List ℕ → Exchange
  replies : List ℕ → Exchange

-- what is read and written, in order
abbrev pub Talk : Type 0
Talk = List Exchange

abbrev pub pieces_of : Talk → List (List ℕ)
pieces_of [] = []
pieces_of (hears unread ∷ rest) = pieces_of rest
pieces_of (replies piece ∷ rest) = piece ∷ pieces_of rest

-- the bytes left of an input after these exchanges
abbrev pub unread_following : Talk → List ℕ → List ℕ
unread_following [] unread = unread
unread_following (hears now ∷ rest) unread = unread_following rest now
unread_following (replies piece ∷ rest) unread = unread_following rest unread

-- the line that is answered; a line that is too long is answered like an empty one
abbrev pub heard : Asked → Option (List ℕ)
heard (Line line) = Some line
heard TooLong = Some []
heard End = None

-- a reply is written, and the session continues; an empty reply ends it
abbrev pub replied : List ℕ → Talk → Talk
replied [] rest = []
replied (byte ∷ reply) rest = replies (byte ∷ reply) ∷ rest

-- the rest of a session after a line is read; `answered` gives each line's reply and the next state. Without a line the session ends
abbrev pub led_by : {S : Type 0} → (S → List ℕ → List ℕ × S) → (S → Talk) → S → Option (List ℕ) → Talk
led_by answered next state None = []
led_by answered next state (Some line) = replied (answered state line).0 (next (answered state line).1)

-- a session of at most this many lines over the remaining bytes of an input
unfoldable pub talk : {S : Type 0} → (S → List ℕ → List ℕ × S) → S → ℕ → List ℕ → Talk
talk answered state zero unread = []
talk answered state (suc lines) unread =
    hears (unread_after unread) ∷ led_by answered (λ next. talk answered next lines (unread_after unread)) state (heard (asked_of unread))
