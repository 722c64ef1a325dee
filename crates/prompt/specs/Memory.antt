-- The input in memory: the bytes left, and the calls that are set to fail. docs/reference/outside.md is the page for readers.
use Rattle.std.specs.Prelude.{◌≡◌, ℕ, ◌/◌, true, IsTrue, IsFalse, Result, Ok, Err, List, [], drop}
use Rattle.ddc_base.specs.Outside.{one_more}
use Rattle.ddc_base.specs.Memory.{is_to_fail}
use Rattle.prompt.specs.declared.asking.Asked.{Asked}
use Rattle.prompt.specs.declared.asking.Failed.{Failed}
use Rattle.prompt.specs.Prompts.{PromptState, asked_of, bytes_taken, unread_after}

-- an input in memory: the bytes left, how many lines were requested, which of these calls fail (by number, from 1), and its failures
pub record MemoryPrompt : Type 0 where
  pub unread : List ℕ
  pub lines : ℕ
  pub failing_lines : List ℕ
  pub faults : ℕ

-- its remaining bytes are known
abbrev pub prompt_state : MemoryPrompt → PromptState
prompt_state prompt = record { tells = true; unread = prompt.unread; faults = prompt.faults }

-- a new input with these bytes
abbrev pub prompt_over : List ℕ → MemoryPrompt
prompt_over bytes = record { unread = bytes; lines = 0; failing_lines = []; faults = 0 }

-- a request in memory returns the next line; a call that is set to fail consumes half of its bytes
abbrev pub AsksHeld : MemoryPrompt → Result Asked Failed → MemoryPrompt → Type 0
AsksHeld old (Ok asked) new =
    IsFalse (is_to_fail old.lines old.failing_lines)
    × (asked ≡ asked_of old.unread)
    × (new ≡ record old { unread = unread_after old.unread; lines = one_more old.lines })
AsksHeld old (Err _) new =
    IsTrue (is_to_fail old.lines old.failing_lines)
    × (new ≡ record old { unread = drop (bytes_taken old.unread / 2) old.unread; lines = one_more old.lines; faults = one_more old.faults })
