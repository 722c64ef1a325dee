use Rattle.std.proofs.Common.{subst, arith}
use Rattle.save_format.specs.StateText.Seen.{ReadsStateText}
use Rattle.save_format.proofs.StateTextLemmas.Texts.{formed_again, is_found}
use Rattle.save_format.proofs.state_text.reading.read.Goals as goal

pub returns-clause-found : goal.returns-clause-found
returns-clause-found c = is_found c.args.text.now c.all.result (λ i. omega (arith, c.type_inv.text i)) c.all.ensures

pub returns-clause-only : goal.returns-clause-only
returns-clause-only c = λ s fits is. subst (ReadsStateText c.all.result) (formed_again s c.args.text.now fits is) c.all.ensures
