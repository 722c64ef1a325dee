use Rattle.std.proofs.Common.{refl, ◌∙◌}
use Rattle.paged_mem.specs.Inside.Codes.{same_paged}
use Rattle.paged_mem.proofs.paged.PagedRamRam.fetch_near.Goals as goal

pub returns-clause-same : goal.returns-clause-same
returns-clause-same c = same_paged _ _ refl ∙ c.self.view_is
