use Rattle.std.proofs.Common.{◌-◌}
use Rattle.save_format.specs.ByteFields.Reader.{counted}
use Rattle.save_format.specs.StateText.StateText.{after_run, run_at}
use Rattle.save_format.proofs.StateTextLemmas.Mapped.{WentBy}
use Rattle.save_format.proofs.state_text.mapping.runs_mappable.Given as goal

abbrev pub invariant-loop : goal.invariant-loop
invariant-loop l = WentBy l.remaining l.least (l.count - l.counter) l.cursor (counted run_at after_run 0 l.fn.cursor)
