use Rattle.std.proofs.Common.{subst, arith}
use Rattle.save_format.specs.StateText.Seen.{ReadsStateText, state_view}
use Rattle.save_format.proofs.PatchTextLemmas.Texts.{is_found, parsed_again}
use Rattle.save_format.proofs.patch_text.reading.read.Goals as goal

pub returns-clause-found : goal.returns-clause-found
returns-clause-found c = is_found (state_view c.args.base.now) c.args.text.now c.all.result c.requires (λ i. omega (arith, c.type_inv.text i)) c.all.ensures

pub returns-clause-only : goal.returns-clause-only
returns-clause-only c = λ s fits e. subst (ReadsStateText c.all.result) (parsed_again (state_view c.args.base.now) s c.args.text.now c.requires fits e) c.all.ensures
