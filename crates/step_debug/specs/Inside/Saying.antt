-- The line of where a run stands, by how running on ended. It serves the split of the code: no promise depends on its being read.
use Rattle.std.specs.Prelude.{◌≡◌, ℕ, Some, None, Result, IfOk, List}
use Rattle.ddc_base.specs.declared.byte_list.OutOfMemory.{OutOfMemory}
use Rattle.guest_run.specs.declared.run.RunEnd.{RunEnd}
use Rattle.guest_run.specs.declared.run.RunEnd.TheVariants as ending
use Rattle.guest_run.specs.Run.{Exited, Trapped, UnknownCall}
use Rattle.step_debug.specs.Sessions.{SessionState, came_text}

abbrev pub ReportsBy : SessionState → RunEnd → List ℕ → Type 0
ReportsBy session (ending.Exited status) line = line ≡ came_text session.limit (Some (Exited status), session.at)
ReportsBy session (ending.Trapped cause) line = line ≡ came_text session.limit (Some (Trapped cause), session.at)
ReportsBy session (ending.UnknownCall number) line = line ≡ came_text session.limit (Some (UnknownCall number), session.at)
ReportsBy session ending.Spent line = line ≡ came_text session.limit (None, session.at)
ReportsBy session ending.OutOfMemory line = ⊥

-- the line of where a session stands, or memory ran out
abbrev pub Reports : SessionState → RunEnd → Result (List ℕ) OutOfMemory → Type 0
Reports session end result = IfOk result (ReportsBy session end)
