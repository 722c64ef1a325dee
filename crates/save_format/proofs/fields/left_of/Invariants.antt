use Rattle.std.proofs.Common.{◌≡◌, ◌-◌, None}
use Rattle.std.specs.Option.{option_copied}
use Rattle.save_format.specs.ByteFields.Reader.{several}
use Rattle.save_format.proofs.ByteFieldsLemmas.Loop.{with_prefix}
use Rattle.save_format.specs.SaveText.{after_left, saved_left_at}
use Rattle.save_format.proofs.fields.left_of.Given as goal

abbrev pub invariant-loop : goal.invariant-loop
invariant-loop l = with_prefix l.lines (several saved_left_at after_left (option_copied l.last) (l.count - l.counter) l.cursor) ≡ several saved_left_at after_left None l.count l.fn.cursor
