-- What a cut with status 0 leaves, and the outcomes of `segment` and `ends` on it. docs/reference/segments.md says the same for people.
use Rattle.std.specs.Prelude.{◌≡◌, ◌≢◌, ℕ, ◌+◌, ◌*◌, ◌<◌, ◌≤◌, Some, Ok, List, [], ◌∷◌, decimal, length, slice_get}
use Rattle.std.specs.FinMap as map
use Rattle.ddc_base.specs.Outside.{NamedFiles}
use Rattle.ddc_base.specs.Limits.{most_states}
use Rattle.mem_files.specs.Outputs.{out}
use Rattle.guest_run.specs.Run.{Exited, after, first_end}
use Rattle.guest_run.specs.State.{GuestState}
use Rattle.recipe.specs.declared.parts.Stage.{Stage}
use Rattle.audit_rules.specs.Stages.{contents, finished, output_of, stage_result, start_stage}
use Rattle.audit_rules.specs.declared.answer.Finished.{Finished}
use Rattle.segments.specs.Segments.{second_text}
use Rattle.command_plan.specs.declared.status.Status.TheVariants.{Yes}
use Rattle.command_plan.specs.Plan.{Outcome, Plan, outcome}
use Rattle.command_plan.specs.Words.{as_steps}
use Rattle.stage_commands.specs.Begun.{IsBegun}
use Rattle.stage_commands.specs.Cut.{cut_plan}
use Rattle.stage_commands.specs.Ends.{ends_plan}
use Rattle.stage_commands.specs.Names.{piece_name}
use Rattle.stage_commands.specs.Ready.{needs_ready}
use Rattle.stage_commands.specs.Segment.{segment_plan}
use Rattle.stage_commands.specs.Texts.{cut_line, run_record, segment_line}
use Rattle.stage_commands.specs.declared.ready.Ready.{Ready}

-- the outcomes of `cut RECIPE STAGE EVERY PREFIX`, `segment FROM TO` and `ends RECIPE STAGE PREFIX COUNT` on these files
abbrev pub cut_over : List ℕ → List ℕ → List ℕ → List ℕ → NamedFiles → Outcome
cut_over recipe stage every prefix files = outcome (cut_plan (recipe ∷ stage ∷ every ∷ prefix ∷ [])) files

abbrev pub segment_over : List ℕ → List ℕ → NamedFiles → Outcome
segment_over from to files = outcome (segment_plan (from ∷ to ∷ [])) files

abbrev pub ends_over : List ℕ → List ℕ → List ℕ → ℕ → NamedFiles → Outcome
ends_over recipe stage prefix count files = outcome (ends_plan (recipe ∷ stage ∷ prefix ∷ decimal count ∷ [])) files

-- the stage that the words name on these files, what the commands on it start from, and its start
pub record CutStart (recipe stage prefix : List ℕ) (files : NamedFiles) : Type 0 where
  pub ready : Ready
  pub begins : IsBegun recipe stage files ready
  pub found : (next : Ready → Plan) → outcome (needs_ready recipe stage prefix next) files ≡ outcome (next ready) files
  pub named : Stage
  pub there : slice_get ready.recipe.stages (length ready.done) ≡ Some named
  pub begun : GuestState
  pub starts : start_stage ready.recipe (contents ready.inputs ready.done) named ≡ Ok begun

-- the stage's run: an exit with 0 that left the stage's output. It is that of the audit's definition (`bench`), if that finishes the stage
pub record CutRun (recipe stage prefix : List ℕ) (files : NamedFiles) : Type 0 where
  pub start : CutStart recipe stage prefix files
  pub last : GuestState
  pub exits : first_end start.begun start.named.steps ≡ Some (Exited 0, last)
  pub made : List ℕ
  pub left : out last.world (output_of start.named.output) ≡ Some made
  pub benched : (f : Finished) → stage_result start.ready.recipe start.ready.inputs start.ready.done start.named ≡ Ok f
      → f ≡ finished (last.steps + 1) last.world made

-- a name holds the state of the run after so many steps
pub record IsHeldState {recipe stage prefix : List ℕ} {files : NamedFiles} (run : CutRun recipe stage prefix files) (later : NamedFiles) (name : List ℕ) (steps : ℕ) : Type 0 where
  pub state : GuestState
  pub reached : after run.start.begun steps ≡ Some state
  pub held : map.get later name ≡ Some (second_text state)

-- A cut returned 0. Its states are saved, and no other name changes. Every two neighbours are a segment of EVERY steps. `ends` returns 0
-- and prints the run's record, which is that of the audit's definition (`bench`) if that finishes the stage
pub record IsRightCut (recipe stage every prefix : List ℕ) (files : NamedFiles) (came : Outcome) : Type 0 where
  pub run : CutRun recipe stage prefix files
  pub steps : ℕ
  pub steps_are : as_steps every ≡ Some steps
  pub count : ℕ
  pub some : 1 ≤ count
  pub few : count ≤ most_states
  pub printed : came.text ≡ cut_line count (run.last.steps + 1)
  pub states : (number : ℕ) → number < count → IsHeldState run came.files (piece_name prefix number) (number * steps)
  pub others : (name : List ℕ) → ((number : ℕ) → number < count → name ≢ piece_name prefix number) → map.get came.files name ≡ map.get files name
  pub pieces : (number : ℕ) → number + 1 < count
      → segment_over (piece_name prefix number) (piece_name prefix (number + 1)) came.files ≡ record { status = Yes; text = segment_line steps; files = came.files }
  pub both_ends : ends_over recipe stage prefix count came.files
      ≡ record { status = Yes; text = run_record run.start.named.name (finished (run.last.steps + 1) run.last.world run.made); files = came.files }
  pub as_benched : (f : Finished) → stage_result run.start.ready.recipe run.start.ready.inputs run.start.ready.done run.start.named ≡ Ok f
      → (ends_over recipe stage prefix count came.files).text ≡ run_record run.start.named.name f
