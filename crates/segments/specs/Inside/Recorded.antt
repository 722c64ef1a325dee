-- The answer of reading a text.
use Rattle.std.specs.Prelude.{◌≡◌, ℕ, ◌<◌, ◌^◌, Result, Ok, Err, List}
use Rattle.checkpoints.specs.Checkpoint.{MayWantMemory}
use Rattle.guest_run.specs.State.{GuestState}
use Rattle.guest_run.specs.Valid.{IsValid}
use Rattle.segments.specs.declared.reading.Recorded.{Recorded}
use Rattle.segments.specs.declared.reading.Unread.{Unread}
use Rattle.segments.specs.declared.reading.Unread.TheVariants.{Fault, OutOfMemory}
use Rattle.segments.specs.Segments.{IsNoState, IsStateOf, second_text}

abbrev pub NotRead : List ℕ → Unread → Type 0
NotRead text (Fault why) = IsNoState text why
NotRead text OutOfMemory = MayWantMemory text

abbrev pub ReadBy : List ℕ → Result GuestState Unread → Type 0
ReadBy text (Ok guest) = IsStateOf text guest
ReadBy text (Err why) = NotRead text why

-- what is recorded of the state of a text
pub record Records (text : List ℕ) (recorded : Recorded) : Type 0 where
  pub guest : GuestState
  pub is : IsStateOf text guest
  pub valid : IsValid guest
  pub small : guest.steps < 2 ^ 64
  pub counted : recorded.steps ≡ guest.steps
  pub written : recorded.text ≡ second_text guest

abbrev pub RecordedBy : List ℕ → Result Recorded Unread → Type 0
RecordedBy text (Ok recorded) = Records text recorded
RecordedBy text (Err why) = NotRead text why
