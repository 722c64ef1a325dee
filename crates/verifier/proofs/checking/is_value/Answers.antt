use Rattle.std.proofs.Common.{◌∙◌, ap, subst}
use Rattle.std.specs.Prelude.{bytes_eq}
use Rattle.hex_langs.specs.Link.Link.{Links}
use Rattle.verifier.proofs.Refused.{link-refused}
use Rattle.verifier.proofs.Rightness.{value-right}
use Rattle.verifier.proofs.checking.is_value.Goals as goal

pub returns-in-Ok : goal.returns-in-Ok
returns-in-Ok c = λ meant links.
    c.eq.ensures ∙ ap (λ bytes. bytes_eq bytes c.args.made.now) c.as_slice.ensures
    ∙ value-right c.args.value c.in-Ok.bytes c.args.made.now meant c.in-Ok.is links

pub returns-in-Err : goal.returns-in-Err
returns-in-Err c = λ meant links.
    link-refused c.args.made.now meant c.in-Err.refusal c.hex_refused.result (subst (λ value. Links value meant) c.in-Err.is links) c.hex_refused.ensures
