use Rattle.std.proofs.Common.{subst}
use Rattle.save_format.specs.Inside.Mapping.{IsRemainingAfter}
use Rattle.save_format.proofs.StateTextLemmas.Mapped.{none_more}
use Rattle.save_format.proofs.state_text.mapping.remaining_after.Goals as goal

pub returns-in-None : goal.returns-in-None
returns-in-None c = λ runs following. none_more runs c.args.run.now (subst (λ remaining. IsRemainingAfter remaining runs) c.in-None.is following)
