-- States as read from their texts, for what the commands print: one answer for every text. docs/reference/segments.md says the same for
-- people.
use Rattle.std.specs.Prelude.{ℕ, ◌+◌, ◌-◌, Option, None, Some, Result, Ok, Err, List, nat_le, nat_lt, unwrap_or, if◌then◌else◌}
use Rattle.ddc_base.specs.Difference.{first_difference}
use Rattle.ddc_base.specs.Limits.{most_steps}
use Rattle.save_format.specs.StateText.StateText.{StateText, parsed_state}
use Rattle.checkpoints.specs.Checkpoint.{guest_of}
use Rattle.checkpoints.specs.Inside.Tests.{is_in_range, is_joined}
use Rattle.guest_run.specs.Run.{End, after, first_end}
use Rattle.guest_run.specs.State.{GuestState}
use Rattle.segments.specs.Segments.{IsNoState, IsStateOf, second_text}
use Rattle.segments.specs.declared.answers.StateFault.{StateFault}
use Rattle.segments.specs.declared.answers.StateFault.TheVariants.{Form, Range, FileRef}
use Rattle.segments.specs.declared.answers.SegmentAnswer.{SegmentAnswer}
use Rattle.segments.specs.declared.answers.SegmentAnswer.TheVariants.{Yes, No}
use Rattle.segments.specs.declared.answers.SegmentFault.{SegmentFault}
use Rattle.segments.specs.declared.answers.SegmentFault.TheVariants.{From, To, NotLater, TooFar, EndsAt, Differs}

-- the state of a text, or why it is not a state. The tests `is_in_range` and `is_joined` are the rules of such texts
-- (`laws::texts_are_read`)
abbrev pub parsed_by : Result StateText ℕ → Result GuestState StateFault
parsed_by (Err offset) = Err (Form offset)
parsed_by (Ok parsed) = if is_in_range parsed then (if is_joined parsed then Ok (guest_of parsed) else Err FileRef) else Err Range

unfoldable pub state_parsed : List ℕ → Result GuestState StateFault
state_parsed text = parsed_by (parsed_state text)

-- the state after so many steps, if the run does not end before
abbrev pub state_after : GuestState → ℕ → GuestState
state_after guest steps = unwrap_or (after guest steps) guest

-- whether the latter state is reached from the former by so many steps: the run ends before, another state is reached, or the latter is
abbrev pub unless_other : ℕ → Option ℕ → Result ℕ SegmentFault
unless_other steps None = Ok steps
unless_other steps (Some offset) = Err (Differs offset)

abbrev pub reached_by : ℕ → GuestState → GuestState → Option (End × GuestState) → Result ℕ SegmentFault
reached_by steps first last (Some (end, guest)) = Err (EndsAt (guest.steps + 1))
reached_by steps first last None = unless_other steps (first_difference (second_text (state_after first steps)) (second_text last))

abbrev pub along : ℕ → GuestState → GuestState → Result ℕ SegmentFault
along steps first last =
    if nat_lt most_steps steps then Err TooFar
    else reached_by steps first last (first_end first steps)

abbrev pub between_states : Result GuestState StateFault → Result GuestState StateFault → Result ℕ SegmentFault
between_states (Err why) latter = Err (From why)
between_states (Ok first) (Err why) = Err (To why)
between_states (Ok first) (Ok last) = if nat_le last.steps first.steps then Err NotLater else along (last.steps - first.steps) first last

-- of how many steps two texts are a segment, or why they are not one
unfoldable pub piece_of : List ℕ → List ℕ → Result ℕ SegmentFault
piece_of from to = between_states (state_parsed from) (state_parsed to)

-- the first exit, trap or unknown call of the run after a state, at a step up to the limit; or why the text is not a state
abbrev pub end_from : Result GuestState StateFault → ℕ → Result (Option (End × GuestState)) StateFault
end_from (Err why) limit = Err why
end_from (Ok guest) limit = Ok (first_end guest (limit - guest.steps))

unfoldable pub end_after : List ℕ → ℕ → Result (Option (End × GuestState)) StateFault
end_after text limit = end_from (state_parsed text) limit

-- ---- the two answers in terms of the bytes

abbrev pub ReadsAs : List ℕ → Result GuestState StateFault → Type 0
ReadsAs text (Ok guest) = IsStateOf text guest
ReadsAs text (Err why) = IsNoState text why

abbrev pub piece_answer : Result ℕ SegmentFault → SegmentAnswer
piece_answer (Ok steps) = Yes steps
piece_answer (Err why) = No why
