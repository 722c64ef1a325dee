-- Whole runs of programs.
use Rattle.std.proofs.Common.{◌≡◌, ℕ, zero, suc, ◌+◌, List, Some, Result, Ok, refl, sym, ap, ◌∙◌, subst, arith}
use Rattle.mem_files.specs.World.{World}
use Rattle.guest_run.specs.Setting.{Setting}
use Rattle.guest_run.specs.State.{GuestState}
use Rattle.guest_run.specs.Start.{Refusal, start_of}
use Rattle.guest_run.specs.Run.{End, Exited, end_at, first_end}
use Rattle.guest_run.specs.Program.{ProgramRun}
use Rattle.guest_run.proofs.Running.{after-counted}
use Rattle.guest_run.proofs.RunLaws.{ends_after, first_end-at, no_end_at-zero, one_end-law}
use Rattle.guest_run.proofs.Starting.{starts_are}

same_ok : (one other : GuestState) → ◌≡◌ {A = Result GuestState Refusal} (Ok one) (Ok other) → one ≡ other
same_ok one other e = cc

same_status : (s t : ℕ) (one other : GuestState) → ◌≡◌ {A = End × GuestState} (Exited s, one) (Exited t, other) → s ≡ t
same_status s t one other e = status (ap (λ (p : End × GuestState). p.0) e)
  where
    status : ◌≡◌ {A = End} (Exited s) (Exited t) → s ≡ t
    status e = cc

pub one-run : (program : List ℕ) (setting : Setting) (n m s t : ℕ) (world other : World)
    → ProgramRun program setting n s world → ProgramRun program setting m t other → (n ≡ m) × (s ≡ t) × (world ≡ other)
one-run program setting n m s t world other one two =
    let start = same_ok one.start two.start (sym one.starts ∙ two.starts) in
    let both = one_end-law two.start n m (Exited s, one.last) (Exited t, two.last) (ap (λ (g : GuestState). end_at g n) (sym start) ∙ one.ends) two.ends in (
      both.0,
      same_status s t one.last two.last both.1,
      sym one.leaves ∙ ap (λ (p : End × GuestState). p.1.world) both.1 ∙ two.leaves,
    )

pub exit-run : (program : List ℕ) (setting : Setting) (start last : GuestState) (most s : ℕ)
    → start_of program setting ≡ Ok start → first_end start most ≡ Some (Exited s, last) → ProgramRun program setting (last.steps + 1) s last.world
exit-run program setting start last most s starts is =
    let at = first_end-at start most (Exited s, last) is in by_number at.0 at.2
  where
    by_number : (number : ℕ) → end_at start number ≡ Some (Exited s, last) → ProgramRun program setting (last.steps + 1) s last.world
    by_number zero e = absurd (no_end_at-zero start (Exited s, last) e)
    by_number (suc count) e =
        let counted = after-counted start last count (ends_after start count (Exited s, last) e).0 in
        let fresh = starts_are program setting start starts in
        let same : suc count ≡ last.steps + 1 = omega arith in
        record { start = start; last = last; starts = starts; ends = subst (λ n. end_at start n ≡ Some (Exited s, last)) same e; leaves = refl }
