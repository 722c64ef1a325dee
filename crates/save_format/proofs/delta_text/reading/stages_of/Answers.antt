use Rattle.std.proofs.Common.{refl}
use Rattle.save_format.specs.DeltaText.Stages.{stages_relative_at}
use Rattle.save_format.proofs.DeltaTextLemmas.Relative.{joined_seen}
use Rattle.save_format.proofs.delta_text.reading.stages_of.Goals as goal

pub returns : goal.returns
unfolding stages_relative_at
returns c =
    rw (
      rw c.as_slice.ensures.value at c.in_ok-kept.ensures,
      rw (c.known_at.ensures, c.as_slice-2.ensures.value) at c.in_ok-further.ensures,
      joined_seen c.in_ok-kept.kept c.args.base.items c.in_ok-further.further.items c.in_ok-stages.stages.items c.in_ok-stages.ensures,
    ) refl
