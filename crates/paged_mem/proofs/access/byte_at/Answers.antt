use Rattle.std.proofs.Common.{◌≡◌, ◌+◌, ◌*◌, ◌/◌, ◌%◌, ◌∙◌, ap, get_or, arith}
use Rattle.paged_mem.specs.Inside.Entries.{flat}
use Rattle.paged_mem.specs.Inside.Flat.{number_at}
use Rattle.paged_mem.proofs.Accessed.{number_at-flat}
use Rattle.paged_mem.proofs.access.byte_at.Goals as goal

pub returns-clause-value : goal.returns-clause-value
returns-clause-value c =
    let there : 4096 * (c.args.start / 4096) + c.args.start % 4096 ≡ c.args.start = omega arith in
    let byte : number_at (flat c.args.entries.now) c.args.start 1 ≡ get_or (flat c.args.entries.now) c.args.start 0 = omega arith in
    c.number_in.ensures.value
    ∙ number_at-flat c.args.entries.now c.requires.full (c.args.start / 4096) (c.args.start % 4096) 1 c.index-entries-start.result (omega (arith, c.requires.within)) (omega arith) c.index-entries-start.is
    ∙ ap (λ s. number_at (flat c.args.entries.now) s 1) there
    ∙ byte
