-- A stepping session: the reply to each line, by the state of the program's run. docs/reference/step.md says the same for people.
use Rattle.std.specs.Prelude.{◌≡◌, ℕ, ◌+◌, ◌-◌, ◌≤◌, ◌⊎◌, Option, Some, None, Result, Ok, Err, List, [], min, nat_lt, if◌then◌else◌}
use Rattle.ddc_base.specs.Limits.{most_steps}
use Rattle.paged_mem.specs.Memory.{bytes_at}
use Rattle.guest_run.specs.declared.guest.StartRefusal.{StartRefusal}
use Rattle.guest_run.specs.Setting.{Setting}
use Rattle.guest_run.specs.Start.{Refusal, Starts, start_of}
use Rattle.guest_run.specs.State.{GuestState}
use Rattle.guest_run.specs.Run.{End, after}
use Rattle.command_plan.specs.Causes.Texts.{spent_text}
use Rattle.step_debug.specs.declared.command.SessionCommand.{SessionCommand}
use Rattle.step_debug.specs.declared.command.SessionCommand.TheVariants.{Where, Step, Go, Back, Break, Regs, Mem, Quit, Unknown}
use Rattle.step_debug.specs.Lines.{command_of}
use Rattle.step_debug.specs.Replies.{where_line, end_line, end_text, regs_line, mem_line, break_line, no_step_line, unknown_line}
use Rattle.guest_run.specs.declared.run.RunEnd.TheVariants as RunEnd
use Rattle.guest_run.specs.Travels.{Travels, travel}

-- a program with its execution context, its step limit, the state of its run, and the break, if one is set
pub record SessionState : Type 0 where
  pub program : List ℕ
  pub setting : Setting
  pub limit : ℕ
  pub at : GuestState
  pub stop : Option ℕ

abbrev pub session_state : List ℕ → Setting → ℕ → GuestState → Option ℕ → SessionState
session_state program setting limit at stop = record { program = program; setting = setting; limit = limit; at = at; stop = stop }

-- the state of the run `count` steps after the program's start
abbrev pub after_start : Result GuestState Refusal → ℕ → Option GuestState
after_start (Err refusal) count = None
after_start (Ok start) count = after start count

abbrev pub state_of_step : SessionState → ℕ → Option GuestState
state_of_step session count = after_start (start_of session.program session.setting) count

-- a session before its first line
abbrev pub session_start : List ℕ → Setting → ℕ → GuestState → SessionState
session_start program setting limit start = session_state program setting limit start None

-- the session's state is the one after its count of steps from the program's start, within its limit, which is at most 2^48
pub record IsSession (session : SessionState) : Type 0 where
  pub start : GuestState
  pub starts : start_of session.program session.setting ≡ Ok start
  pub fresh : start.steps ≡ 0
  pub reached : after start session.at.steps ≡ Some session.at
  pub within : session.at.steps ≤ session.limit
  pub few : session.limit ≤ most_steps

-- ---- the replies, each with the session after it

abbrev pub at_state : SessionState → GuestState → SessionState
at_state session guest = record session { at = guest }

-- the line of where a guest stands: the end of its run, its position, or its exhausted step limit
abbrev pub came_text : ℕ → Option End × GuestState → List ℕ
came_text limit (Some end, guest) = end_line (end_text end) (guest.steps + 1)
came_text limit (None, guest) = if nat_lt guest.steps limit then where_line guest else end_line spent_text limit

abbrev pub came : SessionState → Option End × GuestState → List ℕ × SessionState
came session going = (came_text session.limit going, at_state session going.1)

-- so many steps, or as many as the limit leaves
abbrev pub within_limit : SessionState → ℕ → ℕ
within_limit session most = min most (session.limit - session.at.steps)

-- so many steps within the limit, up to the end of the run or an address
abbrev pub gone : SessionState → Option ℕ → ℕ → List ℕ × SessionState
gone session stop most = came session (travel stop session.at (within_limit session most))

-- the session at an earlier state; each number of steps up to those taken has one
abbrev pub returned : SessionState → Option GuestState → List ℕ × SessionState
returned session None = ([], session)
returned session (Some guest) = (where_line guest, at_state session guest)

-- the reply to a command; the reply to `quit` is empty
abbrev pub obeyed : SessionState → SessionCommand → List ℕ × SessionState
obeyed session Where = (where_line session.at, session)
obeyed session (Step count) = gone session None count
obeyed session Go = gone session session.stop session.limit
obeyed session (Back count) =
    if nat_lt session.at.steps count then (no_step_line, session) else returned session (state_of_step session (session.at.steps - count))
obeyed session (Break address) = (break_line address, record session { stop = Some address })
obeyed session Regs = (regs_line session.at.hart, session)
obeyed session (Mem address count) = (mem_line (bytes_at session.at.hart.memory address count), session)
obeyed session Quit = ([], session)
obeyed session Unknown = (unknown_line, session)

-- the reply to a line
unfoldable pub reply_to : SessionState → List ℕ → List ℕ × SessionState
reply_to session line = obeyed session (command_of line)

-- ---- the start

-- a session is at the program's start, or the start is refused
abbrev pub StartsSession : List ℕ → Setting → ℕ → Result SessionState StartRefusal → Type 0
StartsSession program setting limit (Ok session) =
    (start : GuestState) × (start_of program setting ≡ Ok start) × (session ≡ session_start program setting limit start)
StartsSession program setting limit (Err refusal) = Starts (start_of program setting) (Err refusal)

-- ---- out of memory

-- the session ran on as far as requested, or ran out of memory in an earlier step; continuing from there gives the same result
abbrev pub IsFurther : SessionState → Option ℕ → ℕ → SessionState → Type 0
IsFurther old stop most new =
    (new ≡ at_state old new.at)
    × ((new.at ≡ (travel stop old.at (within_limit old most)).1) ⊎ Travels stop old.at (within_limit old most) RunEnd.OutOfMemory new.at)

-- the session after out of memory: the steps that were done remain, and every other command leaves it as it was
abbrev pub KeepsSession : SessionState → SessionCommand → SessionState → Type 0
KeepsSession old (Step count) new = IsFurther old None count new
KeepsSession old Go new = IsFurther old old.stop old.limit new
KeepsSession old _ new = new ≡ old
