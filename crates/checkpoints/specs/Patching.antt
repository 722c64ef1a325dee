-- The result of a patch relative to its base. docs/reference/delta.md says the same for people.
use Rattle.std.specs.Prelude.{◌≡◌, ℕ, List, Result, Ok, Err}
use Rattle.guest_run.specs.State.{GuestState}
use Rattle.save_format.specs.PatchText.PatchText.{parsed_patch}
use Rattle.save_format.specs.StateText.StateText.{StateText}
use Rattle.checkpoints.specs.Checkpoint.{IsInRange, IsJoined, MayBeMade, guest_of}
use Rattle.checkpoints.specs.declared.reading.StateRefusal.{StateRefusal}
use Rattle.checkpoints.specs.declared.reading.StateRefusal.TheVariants as state

-- its form relative to the base is checked first, then counts and ranges of the resulting state, then references. Memory runs out only if
-- the form is right and memory is taken for that state
abbrev pub AppliesPatch : StateText → List ℕ → Result GuestState StateRefusal → Type 0
AppliesPatch base text (Ok guest) = (s : StateText) × (parsed_patch base text ≡ Ok s) × IsInRange s × IsJoined s × (guest ≡ guest_of s)
AppliesPatch base text (Err (state.Form offset)) = parsed_patch base text ≡ Err offset
AppliesPatch base text (Err state.Range) = (s : StateText) × (parsed_patch base text ≡ Ok s) × ¬ (IsInRange s)
AppliesPatch base text (Err state.FileRef) = (s : StateText) × (parsed_patch base text ≡ Ok s) × IsInRange s × ¬ (IsJoined s)
AppliesPatch base text (Err state.OutOfMemory) = (s : StateText) × (parsed_patch base text ≡ Ok s) × MayBeMade s

-- the result if the base must be listed first, for which memory may run out whatever the text is
abbrev pub AppliesPatchTo : StateText → List ℕ → Result GuestState StateRefusal → Type 0
AppliesPatchTo base text (Err state.OutOfMemory) = Unit {0}
AppliesPatchTo base text result = AppliesPatch base text result
