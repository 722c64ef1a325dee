-- A command that ran is a run of its program.
use Rattle.std.proofs.Common.{◌≡◌, ℕ, ◌+◌, ◌==◌, Bool, true, false, cond, Option, None, Some, List, Result, Ok, Err, refl, ap, ◌∙◌, subst, arith}
use Rattle.std.proofs.lemmas.Bool.{eqb-true}
use Rattle.mem_files.specs.World.{World}
use Rattle.mem_files.specs.Calls.{content_at}
use Rattle.guest_run.specs.Program.{ProgramRun}
use Rattle.guest_run.specs.Run.{End, Exited, Trapped, UnknownCall, first_end}
use Rattle.guest_run.specs.Start.{Refusal, start_of}
use Rattle.guest_run.specs.State.{GuestState}
use Rattle.guest_run.proofs.Endings.{end-counted}
use Rattle.guest_run.proofs.Programs.{exit-run}
use Rattle.guest_run.proofs.RunLaws.{first_end-at, first_end-found}
use Rattle.guest_run.proofs.Starting.{starts_are}
use Rattle.kaem_script.specs.declared.cause.CommandCause.TheVariants as cause
use Rattle.kaem_script.specs.Fold.{CommandResult, Ran, command_box, by_first_end, by_program, by_started, by_status, command, program_name}
use Rattle.kaem_script.specs.Runs.{IsCommandRun}

by-status : (status step : ℕ) (world : World) (ran : Ran) → by_status status step world ≡ Ok ran → (status ≡ 0) × (step ≡ ran.steps) × (world ≡ ran.world)
by-status status step world ran is = at (status == 0) refl is
  where
    at : (b : Bool) → (status == 0) ≡ b → cond {A = CommandResult} b (Ok (record { steps = step; world = world })) (Err (cause.Status status, step)) ≡ Ok ran
        → (status ≡ 0) × (step ≡ ran.steps) × (world ≡ ran.world)
    at true zero here =
        let both : Ok (record { steps = step; world = world }) ≡ Ok ran = here in
        let same : record { steps = step; world = world } ≡ ran = cc in
        (eqb-true status 0 zero, ap (λ (r : Ran). r.steps) same, ap (λ (r : Ran). r.world) same)
    at false other here = absurd cc

by-end : (most : ℕ) (ran : Ran) (end : Option (End × GuestState)) → by_first_end most end ≡ Ok ran
    → (last : GuestState) × (end ≡ Some (Exited 0, last)) × (last.steps + 1 ≡ ran.steps) × (last.world ≡ ran.world)
by-end most ran None is = absurd cc
by-end most ran (Some (Exited status, last)) is =
    let parts = by-status status (last.steps + 1) last.world ran is in
    (last, ap (λ (s : ℕ). Some (Exited s, last)) parts.0, parts.1, parts.2)
by-end most ran (Some (Trapped why, last)) is = absurd cc
by-end most ran (Some (UnknownCall number, last)) is = absurd cc

pub is-run : (most : ℕ) (world : World) (words : List (List ℕ)) (ran : Ran) → command most world words ≡ Ok ran → IsCommandRun most world words ran
unfolding command
is-run most world words ran is = at_program (content_at world (program_name words)) refl is
  where
    at_start : (program : List ℕ) → content_at world (program_name words) ≡ Some program → (begun : Result GuestState Refusal)
        → start_of program (command_box world words) ≡ begun → by_started most begun ≡ Ok ran → IsCommandRun most world words ran
    at_start program there (Err refusal) begins here = absurd cc
    at_start program there (Ok start) begins here =
        let ends = by-end most ran (first_end start most) here in
        let last = ends.0 in
        let run : ProgramRun program (command_box world words) (last.steps + 1) 0 last.world = exit-run program (command_box world words) start last most 0 begins ends.1 in
        let at_step = first_end-at start most (Exited 0, last) ends.1 in
        let counted : start.steps + at_step.0 ≡ last.steps + 1 = end-counted start last at_step.0 (Exited 0) at_step.2 in
        let none : start.steps ≡ 0 = starts_are program (command_box world words) start begins in
        record {
          program = program;
          there = there;
          run = subst (λ (w : World). ProgramRun program (command_box world words) ran.steps 0 w) ends.3
              (subst (λ (n : ℕ). ProgramRun program (command_box world words) n 0 last.world) ends.2 run);
          within = omega (arith, counted, none, at_step.1, ends.2);
        }

    at_program : (program : Option (List ℕ)) → content_at world (program_name words) ≡ program → by_program most world words program ≡ Ok ran
        → IsCommandRun most world words ran
    at_program None there here = absurd cc
    at_program (Some program) there here = at_start program there (start_of program (command_box world words)) refl here

pub is-command : (most : ℕ) (world : World) (words : List (List ℕ)) (ran : Ran) → IsCommandRun most world words ran → command most world words ≡ Ok ran
unfolding command
is-command most world words ran is =
    let start = is.run.start in
    let last = is.run.last in
    let found : first_end start most ≡ Some (Exited 0, last) = first_end-found start ran.steps most (Exited 0, last) is.within is.run.ends in
    let counted : start.steps + ran.steps ≡ last.steps + 1 = end-counted start last ran.steps (Exited 0) is.run.ends in
    let none : start.steps ≡ 0 = starts_are is.program (command_box world words) start is.run.starts in
    let step : last.steps + 1 ≡ ran.steps = omega (arith, counted, none) in
    ap (by_program most world words) is.there ∙ ap (by_started most) is.run.starts ∙ ap (by_first_end most) found
    ∙ (λ i. Ok (record { steps = step i; world = is.run.leaves i }))
