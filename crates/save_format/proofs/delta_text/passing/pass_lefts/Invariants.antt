use Rattle.std.proofs.Common.{◌-◌, None}
use Rattle.std.specs.Option.{option_copied}
use Rattle.save_format.specs.ByteFields.Reader.{several}
use Rattle.save_format.specs.SaveText.{after_left, saved_left_at}
use Rattle.save_format.proofs.DeltaTextLemmas.Relative.{Relative}
use Rattle.save_format.proofs.delta_text.passing.pass_lefts.Given as goal

abbrev pub invariant-loop-index : goal.invariant-loop-index
invariant-loop-index l = Relative l.known l.index l.same (l.count - l.index) (option_copied l.last) l.cursor (several saved_left_at after_left None l.count l.fn.cursor)
