use Rattle.std.proofs.Common.{◌-◌}
use Rattle.save_format.specs.ByteFields.Reader.{several}
use Rattle.save_format.specs.SaveText.{saved_stage_at}
use Rattle.save_format.proofs.ByteFieldsLemmas.Loop.{Went}
use Rattle.save_format.proofs.fields.pass_several.Given as goal

abbrev pub invariant-loop : goal.invariant-loop
invariant-loop l = Went saved_stage_at (λ stage. 0) 0 (l.count - l.counter) l.cursor (several saved_stage_at (λ stage. 0) 0 l.count l.fn.cursor)
