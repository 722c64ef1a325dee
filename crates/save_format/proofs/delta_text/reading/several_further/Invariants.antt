use Rattle.std.proofs.Common.{◌≡◌, ◌-◌, map}
use Rattle.std.specs.Option.{option_copied}
use Rattle.std.specs.Prelude.{option_map}
use Rattle.save_format.specs.ByteFields.Reader.{counted, several}
use Rattle.save_format.specs.DeltaText.Stages.{after_further, further_at}
use Rattle.save_format.specs.Seen.{stage_view}
use Rattle.save_format.proofs.ByteFieldsLemmas.Loop.{with_prefix}
use Rattle.save_format.proofs.delta_text.reading.several_further.Given as goal

abbrev pub invariant-loop : goal.invariant-loop
invariant-loop l = with_prefix (map stage_view l.stages.items) (several further_at after_further (option_map stage_view (option_copied l.relative)) (l.count - l.counter) l.cursor) ≡ counted further_at after_further (option_map stage_view (option_copied l.fn.known)) l.fn.cursor
