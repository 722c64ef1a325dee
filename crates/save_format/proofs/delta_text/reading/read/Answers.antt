use Rattle.std.proofs.Common.{subst, arith}
use Rattle.save_format.specs.DeltaText.Seen.{ReadsDeltaText}
use Rattle.save_format.specs.Seen.{save_view}
use Rattle.save_format.proofs.DeltaTextLemmas.Texts.{is_found, parsed_again}
use Rattle.save_format.proofs.delta_text.reading.read.Goals as goal

pub returns-clause-found : goal.returns-clause-found
returns-clause-found c = is_found (save_view c.args.base) c.args.text.now c.all.result c.requires (λ i. omega (arith, c.type_inv.text i)) c.all.ensures

pub returns-clause-only : goal.returns-clause-only
returns-clause-only c = λ d fits e. subst (ReadsDeltaText c.all.result) (parsed_again (save_view c.args.base) d c.args.text.now c.requires fits e) c.all.ensures
