use Rattle.std.proofs.Common.{ap, Some, ◌∙◌, subst, ◌≤◌, get_or, arith}
use Rattle.mem_files.specs.Inside.Counts.{opens_in}
use Rattle.mem_files.proofs.Counting.{counted_within}
use Rattle.mem_files.proofs.counts.uncount.Goals as goal

pub index_mut-requires : goal.index_mut-requires
index_mut-requires c =
    let number = c.in-Some-File.number in
    let is = c.in-Some-File.is ∙ ap Some (rw c.in-Some-File.is at c.in-Some-File.field-0-is) in
    omega (arith, counted_within c.args.counts.now.items number c.in-Some-File.field-0-1 c.in-Some-File.field-0-2 (subst (λ cell. opens_in number cell ≤ get_or c.args.counts.now.items number 0) is (c.requires number)))
