use Rattle.std.proofs.Common.{Ok, Err, arith}
use Rattle.std.proofs.lemmas.List.Sorted.{searched}
use Rattle.paged_mem.proofs.PageIndices.{never_falls, rank_found}
use Rattle.paged_mem.proofs.pages.rank.Goals as goal

pub returns-in-Ok : goal.returns-in-Ok
returns-in-Ok c =
    let at = searched c.args.pages.now c.args.number (Ok c.in-Ok.found) c.in-Ok.ensures.position (never_falls c.args.pages.now c.requires) in
    rank_found c.args.pages.now c.requires c.args.number c.in-Ok.found at.0 at.1

pub returns-in-Err : goal.returns-in-Err
returns-in-Err c =
    let at = searched c.args.pages.now c.args.number (Err c.in-Err.rank) c.in-Err.ensures.position (never_falls c.args.pages.now c.requires) in
    record { within = at.0; below = at.1; above = λ k from within. omega (arith, at.2 k from within) }
