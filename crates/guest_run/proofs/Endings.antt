-- What an end leaves.
use Rattle.std.proofs.Common.{◌≡◌, ℕ, zero, suc, ◌+◌, ◌<◌, ◌≤◌, List, Some, subst, arith}
use Rattle.mem_files.specs.World.{World}
use Rattle.mem_files.specs.Sound.{AreBytes, IsSound}
use Rattle.mem_files.specs.Outputs.{AreLeft, left}
use Rattle.mem_files.proofs.Leftovers.{left-are}
use Rattle.guest_run.specs.declared.run.RunEnd.{RunEnd}
use Rattle.guest_run.specs.Setting.{IsBox, Setting}
use Rattle.guest_run.specs.State.{GuestState}
use Rattle.guest_run.specs.Run.{End, Exited, end_at, Runs}
use Rattle.guest_run.specs.Program.{ProgramRun}
use Rattle.guest_run.specs.Valid.{IsValid}
use Rattle.guest_run.proofs.Running.{after-counted}
use Rattle.guest_run.proofs.RunLaws.{ends_after, no_end_at-zero, some_steps}
use Rattle.guest_run.proofs.StartLaw.{starts-valid}
use Rattle.guest_run.proofs.Validity.{after-valid, end-byte}

pub end-counted : (guest last : GuestState) (number : ℕ) (end : End) → end_at guest number ≡ Some (end, last)
    → guest.steps + number ≡ last.steps + 1
end-counted guest last zero end is = absurd (no_end_at-zero guest (end, last) is)
end-counted guest last (suc count) end is =
    omega (arith, after-counted guest last count (ends_after guest count (end, last) is).0)

pub end-valid : (guest last : GuestState) (number : ℕ) (end : End) → IsValid guest → end_at guest number ≡ Some (end, last) → IsValid last
end-valid guest last zero end valid is = absurd (no_end_at-zero guest (end, last) is)
end-valid guest last (suc count) end valid is = after-valid guest last count valid (ends_after guest count (end, last) is).0

pub status-byte : (guest last : GuestState) (number status : ℕ) → IsValid guest → end_at guest number ≡ Some (Exited status, last) → status < 256
status-byte guest last zero status valid is = absurd (no_end_at-zero guest (Exited status, last) is)
status-byte guest last (suc count) status valid is =
    let at = ends_after guest count (Exited status, last) is in
    end-byte last (Exited status) (after-valid guest last count valid at.0) at.1

pub runs-valid : (guest to : GuestState) (most : ℕ) (why : RunEnd) → IsValid guest → Runs guest most why to → IsValid to
runs-valid guest to most why valid is =
    let reached = some_steps guest most why to is in
    after-valid guest to reached.0 valid reached.2

pub run-sound : (program : List ℕ) (setting : Setting) (n s : ℕ) (world : World) → AreBytes program → IsBox setting
    → ProgramRun program setting n s world → IsSound world
run-sound program setting n s world bytes box run =
    let start = starts-valid program setting run.start bytes box run.starts in
    subst IsSound run.leaves (end-valid run.start run.last n (Exited s) start.0 run.ends).files

pub run-left : (program : List ℕ) (setting : Setting) (n s : ℕ) (world : World) → AreBytes program → IsBox setting
    → ProgramRun program setting n s world → AreLeft (left world)
run-left program setting n s world bytes box run = left-are world (run-sound program setting n s world bytes box run)

pub run-numbers : (program : List ℕ) (setting : Setting) (n s : ℕ) (world : World) → AreBytes program → IsBox setting
    → ProgramRun program setting n s world → (1 ≤ n) × (s < 256)
run-numbers program setting n s world bytes box run =
    let start = starts-valid program setting run.start bytes box run.starts in
    (omega (arith, start.1, end-counted run.start run.last n (Exited s) run.ends), status-byte run.start run.last n s start.0 run.ends)
