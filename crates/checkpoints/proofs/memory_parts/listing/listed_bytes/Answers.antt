use Rattle.std.proofs.Common.{ℕ, ◌*◌, ap, sym, ◌∙◌}
use Rattle.paged_mem.specs.Memory.{bytes_at}
use Rattle.checkpoints.specs.MemoryParts.Canonical.{listed_page}
use Rattle.checkpoints.proofs.MemoryPartsLemmas.PagesFound.{zeros_unlisted}
use Rattle.checkpoints.proofs.memory_parts.listing.listed_bytes.Goals as goal

pub returns-in-Zero : goal.returns-in-Zero
returns-in-Zero g c =
    ap (λ (n : ℕ). listed_page c.args.number (bytes_at (g.R.Ram.bytes c.args.ram.now) (4096 * n) 4096)) (sym c.from.ensures)
    ∙ ap (listed_page c.args.number) (sym c.in-Zero.ensures) ∙ zeros_unlisted c.args.number 4096
