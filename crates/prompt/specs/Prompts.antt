-- Standard input (`Prompt`), and the effect of each call. docs/reference/outside.md is the page for readers.
use Rattle.std.specs.Prelude.{◌≡◌, ℕ, ◌+◌, ◌==◌, Bool, Result, Ok, Err, List, length, take, drop, min, nat_le, if◌then◌else◌}
use Rattle.std.specs.List.{position_or_len}
use Rattle.ddc_base.specs.Outside.{one_more}
use Rattle.prompt.specs.declared.asking.Asked.{Asked}
use Rattle.prompt.specs.declared.asking.Asked.TheVariants.{Line, TooLong, End}
use Rattle.prompt.specs.declared.asking.Failed.{Failed}

-- an input: whether its remaining bytes are known; if so, these bytes; and how many calls have failed
pub record PromptState : Type 0 where
  pub tells : Bool
  pub unread : List ℕ
  pub faults : ℕ

-- the number of bytes before the first LF, or of all bytes without an LF
abbrev pub line_size : List ℕ → ℕ
line_size unread = position_or_len (λ byte. byte == 10) unread

-- the result of asking for a line when these bytes are left: the first line without its LF, if it has at most 256 bytes
abbrev pub asked_of : List ℕ → Asked
asked_of unread =
    if length unread == 0 then End
    else (if nat_le (line_size unread) 256 then Line (take (line_size unread) unread) else TooLong)

-- how many of these bytes the request consumes: the line with its LF, but at most 65,536
abbrev pub bytes_taken : List ℕ → ℕ
bytes_taken unread = min (line_size unread + 1) 65_536

abbrev pub unread_after : List ℕ → List ℕ
unread_after unread = drop (bytes_taken unread) unread

-- an input after `count` bytes were consumed; if its remaining bytes are not known, it shows none
abbrev pub after_taking : ℕ → PromptState → PromptState
after_taking count prompt = record prompt { unread = if prompt.tells then drop count prompt.unread else prompt.unread }

-- an input after a request that returned a line, too long, or the end
abbrev pub after_line : PromptState → PromptState
after_line prompt = after_taking (bytes_taken prompt.unread) prompt

-- an input failed after some bytes were consumed, and counts it
pub record LineFails (old new : PromptState) : Type 0 where
  pub count : ℕ
  pub failed : new ≡ record (after_taking count old) { faults = one_more old.faults }

-- the effect of a request for a line
abbrev pub LineLeaves : PromptState → Result Asked Failed → PromptState → Type 0
LineLeaves old (Ok asked) new = new ≡ after_line old
LineLeaves old (Err _) new = LineFails old new
