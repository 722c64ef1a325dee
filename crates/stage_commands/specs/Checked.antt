-- What a 0 of `segment` shows, and what a 0 of `ends` and of all `segment`s shows together. docs/reference/segments.md says the same for
-- people.
use Rattle.std.specs.Prelude.{◌≡◌, ℕ, ◌+◌, ◌<◌, ◌≤◌, Option, None, Some, Result, Ok, Err, List}
use Rattle.ddc_base.specs.declared.outside.Loaded.TheVariants.{Bytes}
use Rattle.ddc_base.specs.Outside.{NamedFiles, loaded}
use Rattle.ddc_base.specs.Limits.{most_state, most_states}
use Rattle.guest_run.specs.declared.run.RunEnd.{RunEnd}
use Rattle.guest_run.specs.declared.run.RunEnd.TheVariants as run
use Rattle.guest_run.specs.Run.{End, Exited, Trapped, UnknownCall}
use Rattle.guest_run.specs.State.{GuestState}
use Rattle.audit_rules.specs.Stages.{finished, stage_result}
use Rattle.audit_rules.specs.declared.answer.Finished.{Finished}
use Rattle.segments.specs.Segments.{EndsWith, GoesOnFrom, IsNoState, IsSegment}
use Rattle.segments.specs.declared.answers.StateFault.{StateFault}
use Rattle.command_plan.specs.declared.status.Status.TheVariants.{Yes}
use Rattle.command_plan.specs.Plan.{Outcome}
use Rattle.stage_commands.specs.Cutting.{CutRun, ends_over, segment_over}
use Rattle.stage_commands.specs.Names.{piece_name}
use Rattle.stage_commands.specs.Texts.{run_record, segment_line}

-- ---- two texts, and the last one

-- two names hold texts that are a segment of so many steps
pub record HoldPiece (from to : List ℕ) (files : NamedFiles) (steps : ℕ) : Type 0 where
  pub former : List ℕ
  pub former_is : loaded files from most_state ≡ Bytes former
  pub latter : List ℕ
  pub latter_is : loaded files to most_state ≡ Bytes latter
  pub piece : IsSegment former latter steps

-- the outcome of `segment` with status 0
abbrev pub piece_reported_yes : ℕ → NamedFiles → Outcome
piece_reported_yes steps files = record { status = Yes; text = segment_line steps; files = files }

-- the end of a run, as the machine's interface names it
abbrev pub run_end : End → RunEnd
run_end (Exited status) = run.Exited status
run_end (Trapped cause) = run.Trapped cause
run_end (UnknownCall number) = run.UnknownCall number

abbrev pub EndShows : List ℕ → ℕ → Result (Option (End × GuestState)) StateFault → Type 0
EndShows text limit (Err why) = IsNoState text why
EndShows text limit (Ok None) = GoesOnFrom text limit
EndShows text limit (Ok (Some (end, guest))) = EndsWith text limit guest (run_end end)

-- ---- all together

-- `ends` returns 0, and so does `segment` of every two neighbours
pub record AreChecked (recipe stage prefix : List ℕ) (count : ℕ) (files : NamedFiles) : Type 0 where
  pub few : count ≤ most_states
  pub both_ends : (ends_over recipe stage prefix count files).status ≡ Yes
  pub pieces : (number : ℕ) → number + 1 < count → (segment_over (piece_name prefix number) (piece_name prefix (number + 1)) files).status ≡ Yes

-- What is printed is the stage's run from its start: its steps in all, its exit with 0, and what it left. It is the record of the audit's
-- definition (`bench`), if that finishes the stage
pub record IsRunReported (recipe stage prefix : List ℕ) (files : NamedFiles) (came : Outcome) : Type 0 where
  pub run : CutRun recipe stage prefix files
  pub reported : came ≡ record { status = Yes; text = run_record run.start.named.name (finished (run.last.steps + 1) run.last.world run.made); files = files }
  pub as_benched : (f : Finished) → stage_result run.start.ready.recipe run.start.ready.inputs run.start.ready.done run.start.named ≡ Ok f → came.text ≡ run_record run.start.named.name f
