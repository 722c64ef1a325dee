use Rattle.std.proofs.Common.{sym, ap, ◌∙◌}
use Rattle.paged_mem.specs.Inside.Entries.{page_content}
use Rattle.paged_mem.specs.Inside.Flat.{number_at}
use Rattle.paged_mem.specs.Ram.{count_of}
use Rattle.paged_mem.proofs.Flats.{number_at-zeros}
use Rattle.paged_mem.proofs.entries.number_in.Goals as goal

pub returns-in-None-clause-value : goal.returns-in-None-clause-value
returns-in-None-clause-value c =
    sym (ap (λ entry. number_at (page_content entry) c.args.low (count_of c.args.width)) c.in-None.is ∙ number_at-zeros 4096 c.args.low (count_of c.args.width))
