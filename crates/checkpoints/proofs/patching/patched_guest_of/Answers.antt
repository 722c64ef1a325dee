use Rattle.std.proofs.Common.{◌≡◌, true, false, refl}
use Rattle.save_format.specs.StateText.Seen.{state_view}
use Rattle.checkpoints.proofs.PatchCounts.{counted_text, many_pages}
use Rattle.checkpoints.proofs.patching.patched_guest_of.Goals as goal

pub returns-then-not-are_countable : goal.returns-then-not-are_countable
returns-then-not-are_countable g c =
    many_pages c.requires.0 (state_view c.args.parts.now) c.requires.1 (λ few. let none : false ≡ true = c.if-not-are_countable.ensures.1 few in absurd cc)

pub guest_of-requires : goal.guest_of-requires
guest_of-requires g c = counted_text c.requires.0 (state_view c.args.parts.now) c.requires.1 (c.if-not-are_countable.ensures.0 refl)
