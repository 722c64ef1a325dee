use Rattle.std.proofs.Common.{◌≡◌, ◌+◌, ◌*◌, ◌/◌, ◌%◌, ◌∙◌, ap, arith}
use Rattle.paged_mem.specs.Inside.Entries.{flat}
use Rattle.paged_mem.specs.Inside.Flat.{number_at}
use Rattle.paged_mem.specs.Ram.{count_of}
use Rattle.paged_mem.proofs.Accessed.{count_some, number_at-flat}
use Rattle.paged_mem.proofs.access.number_from.Goals as goal

pub returns-then-low-count-le-PAGE_LEN-clause-value : goal.returns-then-low-count-le-PAGE_LEN-clause-value
returns-then-low-count-le-PAGE_LEN-clause-value c =
    let there : 4096 * (c.args.start / 4096) + c.args.start % 4096 ≡ c.args.start = omega arith in
    c.number_in.ensures.value
    ∙ number_at-flat c.args.entries.now c.requires.full (c.args.start / 4096) (c.args.start % 4096) (count_of c.args.width) c.index-entries-start.result
    (omega (arith, c.requires.within, count_some c.args.width)) (omega (arith, c.count.ensures, c.if-low-count-le-PAGE_LEN.true)) c.index-entries-start.is
    ∙ ap (λ s. number_at (flat c.args.entries.now) s (count_of c.args.width)) there
