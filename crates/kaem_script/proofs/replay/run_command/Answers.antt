use Rattle.std.proofs.Common.{ap, sym, subst}
use Rattle.mem_files.specs.World.{World}
use Rattle.kaem_script.specs.Faults.{left_after_steps}
use Rattle.kaem_script.specs.Inside.Replays.{Judged, or_no_run}
use Rattle.kaem_script.proofs.replay.run_command.Goals as goal

pub returns-in-Ok-clause-value : goal.returns-in-Ok-clause-value
returns-in-Ok-clause-value c =
    let is = rw (c.in-Ok.is, c.files_in.ensures) at (c.in_ok-guest.ensures.begins c.args.step) in
    subst (λ m. Judged {A = World} (λ g. g.world) (or_no_run (left_after_steps c.args.step m)) c.run_over.result) (sym is) c.run_over.ensures

pub returns-in-Err-clause-value : goal.returns-in-Err-clause-value
returns-in-Err-clause-value c =
    ap (λ m. or_no_run (left_after_steps c.args.step m)) (rw (c.in-Err.is, c.files_in.ensures) at (c.in_ok-guest.ensures.begins c.args.step))
