-- Lines that the commands on one stage print. docs/reference/command-line.md says the same for people.
use Rattle.std.specs.Prelude.{ℕ, List, [], ◌∷◌, ◌++◌, codes, decimal, map}
use Rattle.ddc_base.specs.Lines.{line}
use Rattle.report.specs.Lines.{lines_text}
use Rattle.report.specs.declared.line.ReportLine.{ReportLine}
use Rattle.report.specs.declared.line.ReportLine.TheVariants.{Stage, Stream1, Stream2, Left, Made}
use Rattle.segments.specs.Faults.{state_fault_number}
use Rattle.segments.specs.declared.answers.SegmentFault.{SegmentFault}
use Rattle.segments.specs.declared.answers.SegmentFault.TheVariants.{From, To, NotLater, TooFar, EndsAt, Differs}
use Rattle.report.specs.Marks.{mark_of}
use Rattle.audit_rules.specs.declared.answer.Finished.{Finished}

-- the line of a cut: how many states were saved, and the step at which the run ended
unfoldable pub cut_line : ℕ → ℕ → List ℕ
cut_line saved step = line (codes "cut" ∷ decimal saved ∷ codes "step" ∷ decimal step ∷ [])

-- the line where 1,000 states were saved and the run is not over
unfoldable pub too_many_line : List ℕ
too_many_line = line (codes "too" ∷ codes "many" ∷ codes "segments" ∷ [])

-- the line of a segment, by its number of steps, and of two texts that are not one
unfoldable pub segment_line : ℕ → List ℕ
segment_line steps = line (codes "segment" ∷ codes "yes" ∷ decimal steps ∷ [])

abbrev pub segment_words : SegmentFault → List (List ℕ)
segment_words (From why) = codes "from" ∷ decimal (state_fault_number why) ∷ []
segment_words (To why) = codes "to" ∷ decimal (state_fault_number why) ∷ []
segment_words NotLater = codes "later" ∷ []
segment_words TooFar = codes "far" ∷ []
segment_words (EndsAt step) = codes "ends" ∷ decimal step ∷ []
segment_words (Differs offset) = codes "differs" ∷ decimal offset ∷ []

unfoldable pub refuted_segment_line : SegmentFault → List ℕ
refuted_segment_line why = line (codes "refuted" ∷ codes "segment" ∷ segment_words why)

-- the lines of a first text that is not a state, of a first text that is another state than the start, and of a last text that is not a
-- state
unfoldable pub refuted_first_line : ℕ → List ℕ
refuted_first_line number = line (codes "refuted" ∷ codes "first" ∷ decimal number ∷ [])

unfoldable pub other_first_line : ℕ → List ℕ
other_first_line offset = line (codes "refuted" ∷ codes "first" ∷ codes "differs" ∷ decimal offset ∷ [])

unfoldable pub refuted_last_line : ℕ → List ℕ
refuted_last_line number = line (codes "refuted" ∷ codes "last" ∷ decimal number ∷ [])

-- what a run did, as in a report's block of a stage, without the line of its check
abbrev pub run_record_lines : List ℕ → Finished → List ReportLine
run_record_lines name f = (Stage name f.steps ∷ Stream1 f.stream1 ∷ Stream2 f.stream2 ∷ map Left f.left) ++ Made (mark_of f.made) ∷ []

unfoldable pub run_record : List ℕ → Finished → List ℕ
run_record name f = lines_text (run_record_lines name f)
