use Rattle.std.proofs.Common.{subst}
use Rattle.hex_langs.specs.Items.Reading.{ReadsItems}
use Rattle.verifier.proofs.Refused.{read-refused}
use Rattle.verifier.proofs.checking.links_to.Goals as goal

pub returns-in-Err : goal.returns-in-Err
returns-in-Err c = λ meant reads.
    read-refused c.args.base c.args.made.now meant c.in-Err.refusal c.hex_refused.result (subst (ReadsItems meant) c.in-Err.is reads) c.hex_refused.ensures
