-- One turn of a session, which the code splits in this way. To read the promises, this file is not needed.
use Rattle.std.specs.Prelude.{◌≡◌, ◌≢◌, ℕ, suc, ◌⊎◌, Bool, true, false, Result, Ok, Err, List, [], ◌∷◌, ◌++◌}
use Rattle.std.specs.Bool.{OnTrue}
use Rattle.ddc_base.specs.declared.outside.PutFail.{PutFail}
use Rattle.ddc_base.specs.declared.outside.PutFail.TheVariants.{Failed, OutOfMemory}
use Rattle.ddc_base.specs.Outside.{SinkState, PutFails, after_piece}
use Rattle.prompt.specs.Prompts.{PromptState, LineFails, after_line, unread_after}
use Rattle.prompt.specs.Converses.{Exchanged}
use Rattle.prompt.specs.Talks.{Talk, talk, hears, replies}

abbrev pub RepliesBy : {S : Type 0} → (S → List ℕ → List ℕ × S) → S → List ℕ → S → SinkState → SinkState → Result Bool PutFail → Type 0
RepliesBy answered state line next before after (Ok true) =
    (reply : List ℕ) × (reply ≢ []) × (answered state line ≡ (reply, next)) × (after ≡ after_piece reply before)
RepliesBy answered state line next before after (Ok false) = (answered state line ≡ ([], next)) × (after ≡ before)
RepliesBy answered state line next before after (Err Failed) =
    (reply : List ℕ) × (reply ≢ []) × (answered state line ≡ (reply, next)) × PutFails reply before after
RepliesBy answered state line next before after (Err OutOfMemory) = after ≡ before

-- a line was answered and the reply written, or it ended the session, or memory ran out, or the output failed
pub record Replies {S : Type 0} (answered : S → List ℕ → List ℕ × S) (state : S) (line : List ℕ) (next : S) (before after : SinkState) (result : Result Bool PutFail) : Type 0 where
  pub by_result : RepliesBy answered state line next before after result

abbrev pub TurnsBy : {S : Type 0} → (S → List ℕ → List ℕ × S) → S → S → SinkState → SinkState → PromptState → PromptState → Result Bool PutFail → Type 0
TurnsBy answered state next before after old new (Ok true) =
    (new ≡ after_line old) × (piece : List ℕ) × (after ≡ after_piece piece before)
    × OnTrue old.tells ((lines : ℕ) → talk answered state (suc lines) old.unread ≡ hears (unread_after old.unread) ∷ replies piece ∷ talk answered next lines (unread_after old.unread))
TurnsBy answered state next before after old new (Ok false) =
    (new ≡ after_line old) × (after ≡ before) × OnTrue old.tells ((lines : ℕ) → talk answered state (suc lines) old.unread ≡ hears (unread_after old.unread) ∷ [])
TurnsBy answered state next before after old new (Err Failed) =
    (LineFails old new × (after ≡ before))
    ⊎ ((new ≡ after_line old) × (piece : List ℕ) × PutFails piece before after
    × OnTrue old.tells ((lines : ℕ) → (rest : Talk) × (talk answered state (suc lines) old.unread ≡ hears (unread_after old.unread) ∷ replies piece ∷ rest)))
TurnsBy answered state next before after old new (Err OutOfMemory) = (new ≡ after_line old) × (after ≡ before)

-- a line was answered and the reply written; or it ended the session; or the turn was cut short
pub record Turns {S : Type 0} (answered : S → List ℕ → List ℕ × S) (state next : S) (before after : SinkState) (old new : PromptState) (result : Result Bool PutFail) : Type 0 where
  pub by_result : TurnsBy answered state next before after old new result

-- a prefix of a session took place, and `left` more lines may follow
pub record GoesOn {S : Type 0} (answered : S → List ℕ → List ℕ × S) (state now : S) (lines unread : ℕ) (before after : SinkState) (old new : PromptState) : Type 0 where
  pub done : Talk
  pub held : Exchanged done before after old new
  pub told : OnTrue old.tells (talk answered state lines old.unread ≡ done ++ talk answered now unread new.unread)
