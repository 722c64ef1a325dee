use Rattle.std.proofs.Common.{arith}
use Rattle.paged_mem.specs.Inside.Entries.{flat}
use Rattle.paged_mem.proofs.Runs.{no_run, run_of_row}
use Rattle.paged_mem.proofs.access.run_at.Goals as goal

pub overflow_mul-result : goal.overflow_mul-result
overflow_mul-result c =
    let run = run_of_row c.args.pages.now (flat c.args.entries.now) c.requires.sound c.args.at c.in-Some.ensures.0 c.in-Some.first c.in-Some.count c.in-Some.ensures.1 in
    omega (arith, run.low)

pub returns-in-None : goal.returns-in-None
returns-in-None c = no_run c.args.pages.now (flat c.args.entries.now) c.requires.sound c.args.at c.in-None.ensures

pub returns-in-Some : goal.returns-in-Some
returns-in-Some c = run_of_row c.args.pages.now (flat c.args.entries.now) c.requires.sound c.args.at c.in-Some.ensures.0 c.in-Some.first c.in-Some.count c.in-Some.ensures.1
