use Rattle.std.proofs.Common.{◌≡◌, ◌-◌, map}
use Rattle.save_format.specs.ByteFields.Reader.{counted, several}
use Rattle.save_format.specs.SaveText.{saved_stage_at}
use Rattle.save_format.specs.Seen.{stage_view}
use Rattle.save_format.proofs.ByteFieldsLemmas.Loop.{with_prefix}
use Rattle.save_format.proofs.fields.stages_of.Given as goal

abbrev pub invariant-loop : goal.invariant-loop
invariant-loop l = with_prefix (map stage_view l.stages.items) (several saved_stage_at (λ stage. 0) 0 (l.count - l.counter) l.cursor) ≡ counted saved_stage_at (λ stage. 0) 0 l.fn.cursor
