use Rattle.std.proofs.Common.{drop, ap, ◌∙◌}
use Rattle.checkpoints.proofs.writing.registers_of.Goals as goal

pub returns : goal.returns
returns g c = c.copy_from_slice.ensures.after ∙ c.split_at.ensures.back ∙ ap (drop 1) c.registers-all.ensures.value
