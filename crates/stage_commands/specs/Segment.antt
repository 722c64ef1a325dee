-- `segment FROM TO`: whether two texts are a segment of a run. docs/reference/command-line.md and docs/reference/segments.md say the same
-- for people.
use Rattle.std.specs.Prelude.{ℕ, Result, Ok, Err, List, [], ◌∷◌, if◌then◌else◌}
use Rattle.ddc_base.specs.Limits.{most_state}
use Rattle.segments.specs.declared.answers.SegmentFault.{SegmentFault}
use Rattle.command_plan.specs.declared.status.Status.TheVariants.{Yes, Refuted}
use Rattle.command_plan.specs.Plan.{Plan, answers, needs}
use Rattle.command_plan.specs.Words.{are_two_files, usage}
use Rattle.stage_commands.specs.States.{piece_of}
use Rattle.stage_commands.specs.Texts.{refuted_segment_line, segment_line}

-- the answer for a segment of so many steps, or for two texts that are not one
abbrev pub piece_reported : Result ℕ SegmentFault → Plan
piece_reported (Ok steps) = answers Yes (segment_line steps)
piece_reported (Err why) = answers Refuted (refuted_segment_line why)

-- loads the former text and then the latter, each of at most 4,294,967,296 bytes
unfoldable pub segment_files : List ℕ → List ℕ → Plan
segment_files from to =
    needs from most_state (λ former.
    needs to most_state (λ latter.
    piece_reported (piece_of former latter)))

-- the plan for the words after `segment`
abbrev pub segment_plan : List (List ℕ) → Plan
segment_plan (from ∷ to ∷ []) = if are_two_files from to then segment_files from to else usage
segment_plan _ = usage
