use Rattle.std.proofs.Common.{◌≤◌, ◌-◌, drop, length, map}
use Rattle.save_format.specs.PatchText.Inside.Walking.{Rises, SameFrom}
use Rattle.save_format.proofs.patch_text.numbered.from_number.Given as goal

abbrev pub invariant-loop-index : goal.invariant-loop-index
invariant-loop-index g l = record {
  within : l.index ≤ length l.items;
  rises : Rises g.T.Numbered.number_of 0 (map g.T.Numbered.seen (drop l.index l.items));
  same : SameFrom g.T.Numbered.number_of l.number (map g.T.Numbered.seen (drop l.fn.index l.items)) (map g.T.Numbered.seen (drop l.index l.items));
}

abbrev pub decreases-loop-index : goal.decreases-loop-index
decreases-loop-index g l = length l.items - l.index
