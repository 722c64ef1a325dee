-- The effect of a session on its input and output, by how it ended. docs/reference/step.md is the page for readers.
use Rattle.std.specs.Prelude.{◌≡◌, ℕ, ◌⊎◌, Result, Ok, Err, List, [], ◌∷◌, ◌++◌, if◌then◌else◌}
use Rattle.std.specs.Bool.{OnTrue}
use Rattle.ddc_base.specs.declared.outside.PutFail.{PutFail}
use Rattle.ddc_base.specs.declared.outside.PutFail.TheVariants.{Failed, OutOfMemory}
use Rattle.ddc_base.specs.Outside.{SinkState, PutFails, after_piece}
use Rattle.prompt.specs.Prompts.{PromptState, LineFails}
use Rattle.prompt.specs.Talks.{Talk, hears, replies, pieces_of, unread_following}

-- an output after these segments were written in full, in order
abbrev pub after_pieces : List (List ℕ) → SinkState → SinkState
after_pieces [] sink = sink
after_pieces (piece ∷ pieces) sink = after_pieces pieces (after_piece piece sink)

-- an input after these exchanges; if its remaining bytes are not known, it shows none
abbrev pub after_talk : Talk → PromptState → PromptState
after_talk done prompt = record prompt { unread = if prompt.tells then unread_following done prompt.unread else prompt.unread }

-- exactly these exchanges took place, and none failed
pub record Exchanged (done : Talk) (before after : SinkState) (old new : PromptState) : Type 0 where
  pub put : after ≡ after_pieces (pieces_of done) before
  pub asked : new ≡ after_talk done old

-- the whole session took place
pub record SaysAll (talk : List ℕ → Talk) (before after : SinkState) (old new : PromptState) : Type 0 where
  pub done : Talk
  pub held : Exchanged done before after old new
  pub told : OnTrue old.tells (talk old.unread ≡ done)

-- a prefix of the session took place, and nothing failed
pub record BreaksOff (talk : List ℕ → Talk) (before after : SinkState) (old new : PromptState) : Type 0 where
  pub done : Talk
  pub held : Exchanged done before after old new
  pub told : OnTrue old.tells ((rest : Talk) × (talk old.unread ≡ done ++ rest))

-- a prefix of the session took place, and the input failed at the next line
pub record LosesLine (talk : List ℕ → Talk) (before after : SinkState) (old new : PromptState) : Type 0 where
  pub done : Talk
  pub between : PromptState
  pub held : Exchanged done before after old between
  pub line : LineFails between new
  pub told : OnTrue old.tells ((unread : List ℕ) × (rest : Talk) × (talk old.unread ≡ done ++ hears unread ∷ rest))

-- a prefix of the session took place, and the output failed at the next segment
pub record LosesPiece (talk : List ℕ → Talk) (before after : SinkState) (old new : PromptState) : Type 0 where
  pub done : Talk
  pub between : SinkState
  pub held : Exchanged done before between old new
  pub piece : List ℕ
  pub put : PutFails piece between after
  pub told : OnTrue old.tells ((rest : Talk) × (talk old.unread ≡ done ++ replies piece ∷ rest))

abbrev pub ConversesBy : (List ℕ → Talk) → SinkState → SinkState → PromptState → PromptState → Result (Unit {0}) PutFail → Type 0
ConversesBy talk before after old new (Ok _) = SaysAll talk before after old new
ConversesBy talk before after old new (Err Failed) = LosesLine talk before after old new ⊎ LosesPiece talk before after old new
ConversesBy talk before after old new (Err OutOfMemory) = BreaksOff talk before after old new

-- the session over the remaining input took place, or a prefix of it
pub record Converses (talk : List ℕ → Talk) (before after : SinkState) (old new : PromptState) (result : Result (Unit {0}) PutFail) : Type 0 where
  pub by_result : ConversesBy talk before after old new result
