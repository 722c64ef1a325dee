use Rattle.std.proofs.Common.{sym, ◌∙◌}
use Rattle.checkpoints.proofs.MemoryPartsLemmas.Filling.{any_order, turned}
use Rattle.checkpoints.proofs.memory_parts.laws.order_of_pages_is_free.Goals as goal

pub returns : goal.returns
returns c = λ m pages shown. sym (turned m pages) ∙ any_order m pages 0 shown
